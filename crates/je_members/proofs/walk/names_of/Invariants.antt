use Rattle.std.proofs.Common.{◌≡◌, ◌++◌, length}
use Rattle.je_world.specs.Walk.{names_of}
use Rattle.je_members.proofs.walk.names_of.Given as goal

abbrev pub invariant-loop-class : goal.invariant-loop-class
invariant-loop-class l = names_of l.classes ≡ l.names ++ names_of l.left

abbrev pub decreases-loop-class : goal.decreases-loop-class
decreases-loop-class l = length l.left
