use Rattle.je_instr.proofs.OperationLemmas.{all_resolve_once}
use Rattle.je_instr.proofs.ProgramLemmas.{one_code_program}
use Rattle.je_instr.proofs.laws.one_program.Goals as goal

pub returns-clause-operations : goal.returns-clause-operations
returns-clause-operations c = all_resolve_once

pub returns-clause-program : goal.returns-clause-program
returns-clause-program c = one_code_program
