use Rattle.je_instr.proofs.OpcodeLemmas.{nop_means, return_means, call_means, callee_means}
use Rattle.je_instr.proofs.laws.opcodes_mean.Goals as goal

pub returns-clause-nop : goal.returns-clause-nop
returns-clause-nop c = nop_means

pub returns-clause-leaves : goal.returns-clause-leaves
returns-clause-leaves c = return_means

pub returns-clause-calls : goal.returns-clause-calls
returns-clause-calls c = call_means

pub returns-clause-callee : goal.returns-clause-callee
returns-clause-callee c = λ consts index class name text o here callable. callee_means consts index class name text here callable o
