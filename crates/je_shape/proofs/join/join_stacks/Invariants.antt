use Rattle.std.proofs.Common.{length}
use Rattle.je_shape.proofs.WalkLemmas.{GoesStack}
use Rattle.je_shape.proofs.join.join_stacks.Given as goal

abbrev pub invariant-loop-x : goal.invariant-loop-x
invariant-loop-x l = GoesStack l.a l.b l.joined.items l.left l.right

abbrev pub decreases-loop-x : goal.decreases-loop-x
decreases-loop-x l = length l.left
