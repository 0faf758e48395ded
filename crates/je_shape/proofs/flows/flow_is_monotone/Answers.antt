use Rattle.je_shape.proofs.FlowLemmas.{serves_below, flow_below}
use Rattle.je_shape.proofs.LeastLemmas.{method_serves, passes_below}
use Rattle.je_shape.proofs.flows.flow_is_monotone.Goals as goal

pub returns-clause-serves : goal.returns-clause-serves
returns-clause-serves c = serves_below

pub returns-clause-flows : goal.returns-clause-flows
returns-clause-flows c = flow_below

pub returns-clause-returns : goal.returns-clause-returns
returns-clause-returns c = method_serves

pub returns-clause-passes : goal.returns-clause-passes
returns-clause-passes c = passes_below
