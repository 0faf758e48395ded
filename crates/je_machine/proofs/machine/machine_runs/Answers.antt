use Rattle.std.proofs.Common.{arith}
use Rattle.je_machine.specs.Machine.{machine_step}
use Rattle.je_machine.proofs.RunLemmas.{extends_run, ended_run}
use Rattle.je_machine.proofs.SimulationLemmas.{simulation_agrees}
use Rattle.je_machine.proofs.StepLemmas.{machine_steady}
use Rattle.je_machine.proofs.machine.machine_runs.Goals as goal

pub returns-clause-steady : goal.returns-clause-steady
returns-clause-steady c = machine_steady

pub returns-clause-extends : goal.returns-clause-extends
returns-clause-extends c = λ p classes s m n le. extends_run (machine_step p classes) (machine_steady p classes) m n m n s le le (omega arith) (omega arith)

pub returns-clause-ended : goal.returns-clause-ended
returns-clause-ended c = λ p classes s m n le h. ended_run (machine_step p classes) (machine_steady p classes) m n m n s le le (omega arith) (omega arith) h

pub returns-clause-agrees : goal.returns-clause-agrees
returns-clause-agrees c = λ p classes pairs old follows s. simulation_agrees pairs old (machine_step p classes) follows (machine_steady p classes) s
