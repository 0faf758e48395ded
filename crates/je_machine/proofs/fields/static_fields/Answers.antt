use Rattle.je_machine.proofs.FieldLemmas.{static_written, static_other}
use Rattle.je_machine.proofs.fields.static_fields.Goals as goal

pub returns-clause-written : goal.returns-clause-written
returns-clause-written c = static_written

pub returns-clause-other : goal.returns-clause-other
returns-clause-other c = static_other
