use Rattle.std.proofs.Common.{◌≡◌, map}
use Rattle.std.specs.Prelude.{option_map}
use Rattle.je_shape.specs.Views.{shape_seen}
use Rattle.je_least.specs.Knowns.{known_seen, shape_in}
use Rattle.je_least.proofs.answer.shapes_of.Given as goal

abbrev pub invariant-loop-there : goal.invariant-loop-there
invariant-loop-there l = map (option_map shape_seen) l.list.items ≡ map shape_in (map known_seen l.yielded)
