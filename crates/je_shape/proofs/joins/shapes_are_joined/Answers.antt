use Rattle.je_shape.specs.Shape.{Known, KnownBelow}
use Rattle.je_shape.proofs.JoinLemmas.{locals_join, cons_join, no_first, no_rest, longer, shapes_join, known_join, broken_join, one_join}
use Rattle.je_shape.proofs.joins.shapes_are_joined.Goals as goal

pub returns-clause-locals : goal.returns-clause-locals
returns-clause-locals c = locals_join

pub returns-clause-items : goal.returns-clause-items
returns-clause-items c = cons_join

pub returns-clause-item_differs : goal.returns-clause-item_differs
returns-clause-item_differs c = no_first

pub returns-clause-rest_differs : goal.returns-clause-rest_differs
returns-clause-rest_differs c = no_rest

pub returns-clause-depth_differs : goal.returns-clause-depth_differs
returns-clause-depth_differs c = longer

pub returns-clause-shapes : goal.returns-clause-shapes
returns-clause-shapes c = shapes_join

pub returns-clause-known : goal.returns-clause-known
returns-clause-known c = known_join

pub returns-clause-broken : goal.returns-clause-broken
returns-clause-broken c = broken_join

pub returns-clause-one : goal.returns-clause-one
returns-clause-one g = one_join Known KnownBelow
