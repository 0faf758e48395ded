use Rattle.std.proofs.Common.{map}
use Rattle.std.specs.Option.{option_copied}
use Rattle.je_least.specs.Knowns.{known_seen, thrown_seen}
use Rattle.je_least.specs.Plans.{plan_seen}
use Rattle.je_least.proofs.SearchLemmas.{ToHandler, gains_begin, handlers_more}
use Rattle.je_least.proofs.search.pass_to_handlers.Goals as goal

pub loop-handler-init : goal.loop-handler-init
loop-handler-init c =
    gains_begin (ToHandler (plan_seen c.args.plan.now) c.args.at (thrown_seen (option_copied c.args.thrown))) c.handlers-handler-items.result.now
    (map known_seen c.args.search.now.table.items) c.args.search.now.todo.items

pub loop-handler-preserved : goal.loop-handler-preserved
loop-handler-preserved c =
    handlers_more (plan_seen c.args.plan.now) c.args.at (thrown_seen (option_copied c.args.thrown)) c.handlers-handler-items.result.now c.loop-handler.handler-index c.handler-item.result c.handler-item.result
    c.loop-handler-test.true c.handler-item.is
    (map known_seen c.args.search.now.table.items) c.args.search.now.todo.items (map known_seen c.loop-handler.search.table.items) c.loop-handler.search.todo.items
    (map known_seen c.pass_if_covered.new.search.table.items) c.pass_if_covered.new.search.todo.items c.loop-handler.invariant c.in_ok-pass_if_covered.ensures
