use Rattle.std.proofs.Common.{map, refl}
use Rattle.je_least.specs.Knowns.{known_seen}
use Rattle.je_least.specs.Plans.{plan_seen}
use Rattle.je_least.proofs.StepLemmas.{begun}
use Rattle.je_least.proofs.search.begin.Goals as goal

pub returns : goal.returns
returns c =
    begun (plan_seen c.args.plan.now) c.args.plan.now.entry.now c.as_slice.result.now c.as_slice-2.result.now c.operations.result.now (map known_seen c.in_ok-nothing_known.field-0.items)
    (map known_seen c.pass_on.new.search.table.items) c.new.result.items c.pass_on.new.search.todo.items
    refl c.as_slice.ensures c.as_slice-2.ensures c.operations.ensures c.in_ok-nothing_known.ensures c.new.ensures.items c.in_ok-pass_on.ensures
