use Rattle.je_shape.proofs.DecidedLemmas.{both_reached, first_instruction, lone_pop, lone_nop}
use Rattle.je_shape.proofs.least.small_methods.Goals as goal

pub returns-clause-reached : goal.returns-clause-reached
returns-clause-reached c = both_reached

pub returns-clause-first : goal.returns-clause-first
returns-clause-first c = first_instruction

pub returns-clause-lone_pop : goal.returns-clause-lone_pop
returns-clause-lone_pop c = lone_pop

pub returns-clause-lone_nop : goal.returns-clause-lone_nop
returns-clause-lone_nop c = lone_nop
