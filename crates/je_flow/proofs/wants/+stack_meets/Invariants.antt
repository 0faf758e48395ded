use Rattle.std.proofs.Common.{length}
use Rattle.je_flow.proofs.wants.+stack_meets.Given as goal

abbrev pub decreases-stack_meets : goal.decreases-stack_meets
decreases-stack_meets l = length l.wants.now
