use Rattle.je_machine.proofs.ConditionLemmas.{inverse_met, inverse_twice}
use Rattle.je_machine.proofs.operations.inverse_conditions.Goals as goal

pub returns-clause-inverse : goal.returns-clause-inverse
returns-clause-inverse c = inverse_met

pub returns-clause-twice : goal.returns-clause-twice
returns-clause-twice c = inverse_twice
