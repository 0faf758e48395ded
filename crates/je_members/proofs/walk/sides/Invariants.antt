use Rattle.std.proofs.Common.{[], length}
use Rattle.je_world.specs.Seen.{Leads}
use Rattle.je_world.specs.Search.{sides}
use Rattle.je_members.specs.Among.{among}
use Rattle.je_members.proofs.walk.sides.Given as goal

abbrev pub invariant-loop-class : goal.invariant-loop-class
invariant-loop-class g l =
    Leads (g.W.World.seen l.initial.world) (sides (among l.sought) [] l.fn.so_far l.classes)
    (g.W.World.seen l.world) (sides (among l.sought) l.below l.gone l.left)

abbrev pub decreases-loop-class : goal.decreases-loop-class
decreases-loop-class g l = length l.left
