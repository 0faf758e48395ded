use Rattle.std.proofs.Common.{map}
use Rattle.std.specs.Option.{option_copied}
use Rattle.je_least.specs.Knowns.{known_seen, thrown_seen}
use Rattle.je_least.specs.Plans.{plan_seen}
use Rattle.je_least.proofs.StepLemmas.{uncovered}
use Rattle.je_least.proofs.search.pass_if_covered.Goals as goal

pub returns-else-covers : goal.returns-else-covers
returns-else-covers c =
    uncovered (plan_seen c.args.plan.now) c.args.at (thrown_seen (option_copied c.args.thrown)) c.args.handler.now c.covers.result c.covers.ensures c.if-covers.false
    (map known_seen c.args.search.now.table.items) c.args.search.now.todo.items
