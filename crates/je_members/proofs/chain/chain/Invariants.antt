use Rattle.std.proofs.Common.{[]}
use Rattle.je_world.specs.Walk.{most}
use Rattle.je_world.specs.Search.{chain}
use Rattle.je_members.specs.Among.{among}
use Rattle.je_members.proofs.ChainLemmas.{AtName}
use Rattle.je_members.proofs.chain.chain.Given as goal

abbrev pub invariant-loop-left : goal.invariant-loop-left
invariant-loop-left g l =
    AtName (g.W.World.seen l.initial.world) (chain (among l.sought) most [] l.fn.first)
    (g.W.World.seen l.world) l.sought l.left l.classes l.name

abbrev pub decreases-loop-left : goal.decreases-loop-left
decreases-loop-left g l = l.left
