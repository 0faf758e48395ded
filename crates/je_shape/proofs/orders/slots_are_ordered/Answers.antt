use Rattle.je_shape.proofs.OrderLemmas.{below_self, below_chain, below_top_slot, item_self, item_chain, item_below}
use Rattle.je_shape.proofs.orders.slots_are_ordered.Goals as goal

pub returns-clause-reflexive : goal.returns-clause-reflexive
returns-clause-reflexive c = below_self

pub returns-clause-transitive : goal.returns-clause-transitive
returns-clause-transitive c = below_chain

pub returns-clause-top : goal.returns-clause-top
returns-clause-top c = below_top_slot

pub returns-clause-items_reflexive : goal.returns-clause-items_reflexive
returns-clause-items_reflexive c = item_self

pub returns-clause-items_transitive : goal.returns-clause-items_transitive
returns-clause-items_transitive c = item_chain

pub returns-clause-items : goal.returns-clause-items
returns-clause-items c = item_below
