use Rattle.std.proofs.Common.{◌↔◌, length, map}
use Rattle.std.specs.List.{AllByRecursion}
use Rattle.je_shape.specs.Serves.{IsNotMade}
use Rattle.je_shape.specs.Views.{slot_seen}
use Rattle.je_flow.proofs.serving.none_is_made.Given as goal

-- none of those that are left is made, exactly where none of all is
abbrev pub invariant-loop-slot : goal.invariant-loop-slot
invariant-loop-slot l =
    AllByRecursion (IsNotMade l.at) (map slot_seen l.left) ↔ AllByRecursion (IsNotMade l.at) (map slot_seen l.stack)

abbrev pub decreases-loop-slot : goal.decreases-loop-slot
decreases-loop-slot l = length l.left
