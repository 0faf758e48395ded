use Rattle.je_instr.proofs.OperandLemmas.{field_is, interface_is, no_constructor, array_is}
use Rattle.je_instr.proofs.OperandLemmas.{arrays_are, keys_are}
use Rattle.je_instr.proofs.operands.members_mean.Goals as goal

pub returns-clause-field : goal.returns-clause-field
returns-clause-field c = field_is

pub returns-clause-interface : goal.returns-clause-interface
returns-clause-interface c = λ consts index count class name text types o here named plain spells. interface_is consts index count class name text types here named plain spells o

pub returns-clause-constructor : goal.returns-clause-constructor
returns-clause-constructor c = no_constructor

pub returns-clause-array : goal.returns-clause-array
returns-clause-array c = array_is

pub returns-clause-arrays : goal.returns-clause-arrays
returns-clause-arrays c = λ consts index count text component o here spells. arrays_are consts index count text component here spells o

pub returns-clause-keys : goal.returns-clause-keys
returns-clause-keys c = keys_are
