use Rattle.std.proofs.Common.{◌≡◌, map, take}
use Rattle.je_shape.specs.Serves.{Wants}
use Rattle.je_flow.specs.Seen.{want_in}
use Rattle.je_flow.proofs.wants.of_kinds.Given as goal

abbrev pub invariant-loop-kind : goal.invariant-loop-kind
invariant-loop-kind l = map want_in l.wants.items ≡ map Wants (take l.kind-index l.kinds)
