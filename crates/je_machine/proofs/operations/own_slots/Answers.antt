use Rattle.je_machine.proofs.SlotLemmas.{perform_alike, perform_keeps, written_here, written_other}
use Rattle.je_machine.proofs.operations.own_slots.Goals as goal

pub returns-clause-reads : goal.returns-clause-reads
returns-clause-reads c = perform_alike

pub returns-clause-writes : goal.returns-clause-writes
returns-clause-writes c = perform_keeps

pub returns-clause-written : goal.returns-clause-written
returns-clause-written c = written_here

pub returns-clause-other : goal.returns-clause-other
returns-clause-other c = written_other
