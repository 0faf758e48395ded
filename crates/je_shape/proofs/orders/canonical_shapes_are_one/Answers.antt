use Rattle.je_shape.proofs.CanonicalLemmas.{one_names, one_slot, one_shape, one_known}
use Rattle.je_shape.proofs.orders.canonical_shapes_are_one.Goals as goal

pub returns-clause-names : goal.returns-clause-names
returns-clause-names c = one_names

pub returns-clause-slots : goal.returns-clause-slots
returns-clause-slots c = one_slot

pub returns-clause-shapes : goal.returns-clause-shapes
returns-clause-shapes c = one_shape

pub returns-clause-known : goal.returns-clause-known
returns-clause-known c = one_known
