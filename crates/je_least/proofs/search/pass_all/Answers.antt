use Rattle.std.proofs.Common.{map, get_or, refl}
use Rattle.je_least.specs.Knowns.{known_seen, coming_seen}
use Rattle.je_least.specs.Plans.{plan_seen}
use Rattle.je_least.proofs.SearchLemmas.{ToSuccessor, gains_begin, successors_more}
use Rattle.je_least.proofs.search.pass_all.Goals as goal

pub loop-to-init : goal.loop-to-init
loop-to-init c =
    gains_begin (ToSuccessor (plan_seen c.args.plan.now) (coming_seen c.args.coming)) c.args.list.now (map known_seen c.args.search.now.table.items) c.args.search.now.todo.items

pub loop-to-preserved : goal.loop-to-preserved
loop-to-preserved c =
    successors_more (plan_seen c.args.plan.now) (coming_seen c.args.coming) c.args.list.now c.loop-to.to-index (get_or c.args.list.now c.loop-to.to-index 0) 0 c.loop-to-test.true refl
    (map known_seen c.args.search.now.table.items) c.args.search.now.todo.items (map known_seen c.loop-to.search.table.items) c.loop-to.search.todo.items
    (map known_seen c.pass_on.new.search.table.items) c.pass_on.new.search.todo.items c.loop-to.invariant c.in_ok-pass_on.ensures
