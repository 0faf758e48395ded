use Rattle.std.proofs.Common.{map}
use Rattle.je_least.specs.Knowns.{known_seen}
use Rattle.je_least.specs.Plans.{plan_seen}
use Rattle.je_least.proofs.SearchLemmas.{solving_on, solving_ends}
use Rattle.je_least.proofs.StepLemmas.{nil_by}
use Rattle.je_least.proofs.search.least_known.Goals as goal

pub returns-in_default-clause-least : goal.returns-in_default-clause-least
returns-in_default-clause-least c =
    solving_ends (plan_seen c.args.plan.now) (map known_seen c.loop.search.table.items) c.loop.search.todo.items
    (nil_by c.loop.search.todo.items c.pop.new.self.items _ c.in_default.ensures.items c.in_default.ensures.rest c.in_default.ensures.cases.0) c.loop.invariant

pub loop-preserved : goal.loop-preserved
loop-preserved c =
    solving_on (plan_seen c.args.plan.now) (map known_seen c.loop.search.table.items) c.loop.search.todo.items c.pop.new.self.items c.in-Some.at
    (map known_seen c.turn.new.search.table.items) c.turn.new.search.todo.items c.in-Some.ensures.items c.loop.invariant c.in_ok-turn.ensures
