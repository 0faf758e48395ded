use Rattle.std.proofs.Common.{length}
use Rattle.std.specs.Prelude.{◌↔◌, map}
use Rattle.je_shape.specs.Shape.{LocalsBelow}
use Rattle.je_shape.specs.Views.{slot_seen}
use Rattle.je_least.proofs.below.are_locals_below.Given as goal

abbrev pub invariant-loop-y : goal.invariant-loop-y
invariant-loop-y l =
    LocalsBelow (map slot_seen l.left) (map slot_seen l.right) ↔ LocalsBelow (map slot_seen l.a) (map slot_seen l.b)

abbrev pub decreases-loop-y : goal.decreases-loop-y
decreases-loop-y l = length l.right
