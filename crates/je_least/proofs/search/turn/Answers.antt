use Rattle.std.proofs.Common.{map, ap}
use Rattle.je_shape.specs.Shape.{Has, Broken}
use Rattle.je_shape.specs.Views.{shape_seen}
use Rattle.je_least.specs.Knowns.{known_seen}
use Rattle.je_least.specs.Plans.{plan_seen}
use Rattle.je_least.specs.Searching.{assigned}
use Rattle.je_least.proofs.StepLemmas.{stands, turned, turned_nothing, turned_nowhere}
use Rattle.je_least.proofs.search.turn.Goals as goal

pub returns-in_default : goal.returns-in_default
returns-in_default c =
    turned_nowhere (plan_seen c.args.plan.now) c.operations.result.now c.args.at (assigned (map known_seen c.args.search.now.table.items) c.args.at)
    c.operations.ensures c.in_default.ensures.lookup.3 (map known_seen c.args.search.now.table.items) c.args.search.now.todo.items

pub returns-in-Nothing : goal.returns-in-Nothing
returns-in-Nothing c =
    turned_nothing (plan_seen c.args.plan.now) c.deref.result.now c.args.search.now.table.items c.args.at c.in-Some-get.there.now c.in_ok-copy_known.field-0
    c.deref.ensures.value c.in-Some-get.ensures.lookup.1 c.in-Some-get.ensures.lookup.3.0 c.in_ok-copy_known.ensures c.in-Nothing.is c.args.search.now.todo.items

pub returns-in_ok-pass_shape-in-Has : goal.returns-in_ok-pass_shape-in-Has
returns-in_ok-pass_shape-in-Has c =
    turned (plan_seen c.args.plan.now) c.deref.result.now c.args.search.now.table.items c.args.at c.in-Some.operation.now c.in-Some-get.there.now c.in_ok-copy_known.field-0 (Has (shape_seen c.in-Has.s))
    c.deref.ensures.value c.in-Some-get.ensures.lookup.1 c.in-Some-get.ensures.lookup.3.0 c.in_ok-copy_known.ensures (ap known_seen c.in-Has.is)
    (stands c.operations.result.now c.args.plan.now.program.now.operations c.args.at c.in-Some.operation.now c.operations.ensures c.in-Some.ensures.lookup.1 c.in-Some.ensures.lookup.3.0)
    c.args.search.now.todo.items (map known_seen c.pass_shape.new.search.table.items) c.pass_shape.new.search.todo.items c.in_ok-pass_shape-in-Has.ensures

pub returns-in_ok-pass_broken-in-Broken : goal.returns-in_ok-pass_broken-in-Broken
returns-in_ok-pass_broken-in-Broken c =
    turned (plan_seen c.args.plan.now) c.deref.result.now c.args.search.now.table.items c.args.at c.in-Some.operation.now c.in-Some-get.there.now c.in_ok-copy_known.field-0 Broken
    c.deref.ensures.value c.in-Some-get.ensures.lookup.1 c.in-Some-get.ensures.lookup.3.0 c.in_ok-copy_known.ensures (ap known_seen c.in-Broken.is)
    (stands c.operations.result.now c.args.plan.now.program.now.operations c.args.at c.in-Some.operation.now c.operations.ensures c.in-Some.ensures.lookup.1 c.in-Some.ensures.lookup.3.0)
    c.args.search.now.todo.items (map known_seen c.pass_broken.new.search.table.items) c.pass_broken.new.search.todo.items c.in_ok-pass_broken-in-Broken.ensures
