use Rattle.std.proofs.Common.{map}
use Rattle.je_least.specs.Knowns.{known_seen}
use Rattle.je_least.specs.Plans.{plan_seen}
use Rattle.je_least.specs.Searching.{IsSolving}
use Rattle.je_least.proofs.search.least_known.Given as goal

abbrev pub invariant-loop : goal.invariant-loop
invariant-loop l = IsSolving (plan_seen l.plan) (map known_seen l.search.table.items) l.search.todo.items
