use Rattle.std.proofs.Common.{◌≡◌, length, map}
use Rattle.je_shape.specs.Least.{frame_at}
use Rattle.je_least.specs.Leading.{frame_seen}
use Rattle.je_least.proofs.plan.frame_for.Given as goal

abbrev pub invariant-loop-first : goal.invariant-loop-first
invariant-loop-first l = frame_at (map frame_seen l.rest) l.to ≡ frame_at (map frame_seen l.frames) l.to

abbrev pub decreases-loop-first : goal.decreases-loop-first
decreases-loop-first l = length l.rest
