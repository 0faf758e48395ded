use Rattle.je_machine.proofs.FieldLemmas.{key_total, field_written, field_other, object_other}
use Rattle.je_machine.proofs.fields.object_fields.Goals as goal

pub returns-clause-written : goal.returns-clause-written
returns-clause-written c = field_written

pub returns-clause-other : goal.returns-clause-other
returns-clause-other c = field_other

pub returns-clause-objects : goal.returns-clause-objects
returns-clause-objects c = object_other

pub returns-clause-order : goal.returns-clause-order
returns-clause-order c = key_total
