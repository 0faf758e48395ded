use Rattle.std.proofs.Common.{◌≡◌, length}
use Rattle.je_world.specs.World.{is_listed}
use Rattle.je_world.specs.Walk.{names_of}
use Rattle.je_members.proofs.chain.is_among.Given as goal

abbrev pub invariant-loop-class : goal.invariant-loop-class
invariant-loop-class l =
    is_listed l.name (names_of l.classes) ≡ is_listed l.name (names_of l.left)

abbrev pub decreases-loop-class : goal.decreases-loop-class
decreases-loop-class l = length l.left
