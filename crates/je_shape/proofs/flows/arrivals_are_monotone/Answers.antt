use Rattle.je_shape.proofs.LeastLemmas.{agrees_below, arrives_below, arrives_on}
use Rattle.je_shape.proofs.flows.arrivals_are_monotone.Goals as goal

pub returns-clause-agrees : goal.returns-clause-agrees
returns-clause-agrees c = agrees_below

pub returns-clause-before : goal.returns-clause-before
returns-clause-before c = arrives_below

pub returns-clause-after : goal.returns-clause-after
returns-clause-after c = arrives_on
