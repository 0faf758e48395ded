use Rattle.std.proofs.Common.{refl}
use Rattle.je_instr.specs.Opcodes.{local_operations, conditions, field_actions, sorts, array_types}
use Rattle.je_instr.proofs.table.operand_opcodes.Goals as goal

pub returns-clause-locals : goal.returns-clause-locals
unfolding local_operations
returns-clause-locals c = refl

pub returns-clause-branches : goal.returns-clause-branches
unfolding conditions
returns-clause-branches c = refl

pub returns-clause-inverses : goal.returns-clause-inverses
unfolding conditions
returns-clause-inverses c = refl

pub returns-clause-fields : goal.returns-clause-fields
unfolding field_actions
returns-clause-fields c = refl

pub returns-clause-calls : goal.returns-clause-calls
unfolding sorts
returns-clause-calls c = refl

pub returns-clause-arrays : goal.returns-clause-arrays
unfolding array_types
returns-clause-arrays c = refl
