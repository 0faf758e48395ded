use Rattle.std.proofs.Common.{map}
use Rattle.std.specs.Prelude.{option_map}
use Rattle.std.specs.Option.{option_copied}
use Rattle.je_shape.specs.Views.{shape_seen}
use Rattle.je_least.specs.Knowns.{known_seen, coming_seen}
use Rattle.je_least.specs.Plans.{plan_seen}
use Rattle.je_least.proofs.StepLemmas.{passed_outside, passed_taken, passed_put}
use Rattle.je_least.proofs.search.pass_on.Goals as goal

pub returns-in_default : goal.returns-in_default
returns-in_default c =
    passed_outside (plan_seen c.args.plan.now) c.deref.result.now c.args.search.now.table.items c.args.search.now.todo.items c.args.to (coming_seen c.args.coming)
    c.deref.ensures.value c.requires c.in_default.ensures.lookup.3

pub returns-in_ok-put-in-Some-2 : goal.returns-in_ok-put-in-Some-2
returns-in_ok-put-in-Some-2 c =
    passed_put (plan_seen c.args.plan.now) c.deref.result.now c.args.search.now.table.items c.args.search.now.todo.items c.args.to (coming_seen c.args.coming) c.in-Some.there.now c.in-Some-2.more
    (option_map shape_seen (option_copied c.frame_for.result)) c.in_ok-more.field-0 (map known_seen c.put.new.search.table.items) c.put.new.search.todo.items
    c.deref.ensures.value c.requires c.in-Some.ensures.lookup.1 c.in-Some.ensures.lookup.3.0 c.frame_for.ensures c.in-Some-2.is c.in_ok-more.ensures
    c.in_ok-put-in-Some-2.ensures.table c.in_ok-put-in-Some-2.ensures.todo

pub returns-in-None : goal.returns-in-None
returns-in-None c =
    passed_taken (plan_seen c.args.plan.now) c.deref.result.now c.args.search.now.table.items c.args.search.now.todo.items c.args.to (coming_seen c.args.coming) c.in-Some.there.now
    (option_map shape_seen (option_copied c.frame_for.result)) c.in_ok-more.field-0
    c.deref.ensures.value c.in-Some.ensures.lookup.1 c.in-Some.ensures.lookup.3.0 c.frame_for.ensures c.in-None.is c.in_ok-more.ensures
