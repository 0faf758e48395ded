use Rattle.je_instr.proofs.OperationLemmas.{resolves_one, resolves_once, all_resolve}
use Rattle.je_instr.proofs.laws.operations_exist.Goals as goal

pub returns-clause-each : goal.returns-clause-each
returns-clause-each c = resolves_one

pub returns-clause-one : goal.returns-clause-one
returns-clause-one c = resolves_once

pub returns-clause-all : goal.returns-clause-all
returns-clause-all c = all_resolve
