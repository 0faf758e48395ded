use Rattle.je_shape.proofs.OrderLemmas.{stack_self, stack_chain, locals_self, locals_chain, shape_self, shape_chain, known_self, known_chain}
use Rattle.je_shape.proofs.orders.shapes_are_ordered.Goals as goal

pub returns-clause-stacks_reflexive : goal.returns-clause-stacks_reflexive
returns-clause-stacks_reflexive c = stack_self

pub returns-clause-stacks_transitive : goal.returns-clause-stacks_transitive
returns-clause-stacks_transitive c = stack_chain

pub returns-clause-locals_reflexive : goal.returns-clause-locals_reflexive
returns-clause-locals_reflexive c = locals_self

pub returns-clause-locals_transitive : goal.returns-clause-locals_transitive
returns-clause-locals_transitive c = locals_chain

pub returns-clause-shapes_reflexive : goal.returns-clause-shapes_reflexive
returns-clause-shapes_reflexive c = shape_self

pub returns-clause-shapes_transitive : goal.returns-clause-shapes_transitive
returns-clause-shapes_transitive c = shape_chain

pub returns-clause-reflexive : goal.returns-clause-reflexive
returns-clause-reflexive c = known_self

pub returns-clause-transitive : goal.returns-clause-transitive
returns-clause-transitive c = known_chain
