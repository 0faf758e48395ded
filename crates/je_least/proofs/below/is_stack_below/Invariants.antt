use Rattle.std.proofs.Common.{length}
use Rattle.std.specs.Prelude.{◌↔◌, map}
use Rattle.je_shape.specs.Shape.{StackBelow}
use Rattle.je_shape.specs.Views.{slot_seen}
use Rattle.je_least.proofs.below.is_stack_below.Given as goal

abbrev pub invariant-loop-x : goal.invariant-loop-x
invariant-loop-x l =
    StackBelow (map slot_seen l.left) (map slot_seen l.right) ↔ StackBelow (map slot_seen l.a) (map slot_seen l.b)

abbrev pub decreases-loop-x : goal.decreases-loop-x
decreases-loop-x l = length l.left
