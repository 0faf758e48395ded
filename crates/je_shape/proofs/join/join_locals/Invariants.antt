use Rattle.std.proofs.Common.{length}
use Rattle.je_shape.proofs.WalkLemmas.{GoesLocals}
use Rattle.je_shape.proofs.join.join_locals.Given as goal

abbrev pub invariant-loop-x : goal.invariant-loop-x
invariant-loop-x l = GoesLocals l.a l.b l.joined.items l.left l.right

abbrev pub decreases-loop-x : goal.decreases-loop-x
decreases-loop-x l = length l.left
