use Rattle.std.proofs.Common.{arith}
use Rattle.je_machine.proofs.RunLemmas.{extends_run, ended_run}
use Rattle.je_machine.proofs.runs.longer_bounds.Goals as goal

pub returns-clause-extends : goal.returns-clause-extends
returns-clause-extends g c = λ step steady s m n le. extends_run step steady m n m n s le le (omega arith) (omega arith)

pub returns-clause-ended : goal.returns-clause-ended
returns-clause-ended g c = λ step steady s m n le h. ended_run step steady m n m n s le le (omega arith) (omega arith) h
