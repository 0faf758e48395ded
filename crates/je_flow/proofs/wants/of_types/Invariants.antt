use Rattle.std.proofs.Common.{◌≡◌, map, take}
use Rattle.je_machine.specs.Value.{kind_of}
use Rattle.je_shape.specs.Serves.{Wants}
use Rattle.je_flow.specs.Seen.{want_in}
use Rattle.je_flow.proofs.wants.of_types.Given as goal

abbrev pub invariant-loop-of : goal.invariant-loop-of
invariant-loop-of l = map want_in l.wants.items ≡ map (λ t. Wants (kind_of t)) (take l.of-index l.types)
