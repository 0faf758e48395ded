use Rattle.std.proofs.Common.{rules}
use Rattle.je_instr.specs.Opcodes.{local_operations}
use Rattle.je_instr.proofs.shortest.with_slot.Goals as goal

pub returns-in_default : goal.returns-in_default
unfolding local_operations
returns-in_default c = search rules

pub returns-in_default-2 : goal.returns-in_default-2
unfolding local_operations
returns-in_default-2 c = search rules

pub returns-in_default-3 : goal.returns-in_default-3
unfolding local_operations
returns-in_default-3 c = search rules
