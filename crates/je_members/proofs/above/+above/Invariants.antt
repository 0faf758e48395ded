use Rattle.std.proofs.Common.{length, ◌+◌, ◌*◌}
use Rattle.je_world.specs.Search.{above}
use Rattle.je_members.specs.Among.{among}
use Rattle.je_members.proofs.AboveLemmas.{AtNames}
use Rattle.je_members.proofs.above.+above.Given as goal

abbrev pub decreases-above : goal.decreases-above
decreases-above g l = 2 * l.left

abbrev pub decreases-pass : goal.decreases-pass
decreases-pass g l = 2 * l.left + 1

abbrev pub invariant-above-loop-name : goal.invariant-above-loop-name
invariant-above-loop-name g l =
    AtNames (g.W.World.seen l.initial.world)
    (above (among l.sought) l.left l.below l.fn.so_far l.names)
    (g.W.World.seen l.world) l.sought l.left l.below l.gone l.waiting

abbrev pub decreases-above-loop-name : goal.decreases-above-loop-name
decreases-above-loop-name g l = length l.waiting
