use Rattle.std.proofs.Common.{length}
use Rattle.je_base.specs.Units.{SkipsSingles}
use Rattle.je_base.proofs.text.past_singles.Given as goal

abbrev pub invariant-loop-block : goal.invariant-loop-block
invariant-loop-block l = SkipsSingles l.bytes l.left

abbrev pub decreases-loop-block : goal.decreases-loop-block
decreases-loop-block l = length l.left
