use Rattle.std.proofs.Common.{map, take}
use Rattle.std.specs.List.{AllByRecursion}
use Rattle.je_least.specs.Knowns.{known_seen, coming_seen}
use Rattle.je_least.specs.Plans.{plan_seen}
use Rattle.je_least.specs.Searching.{Gains}
use Rattle.je_least.proofs.SearchLemmas.{ToSuccessor}
use Rattle.je_least.proofs.search.pass_all.Given as goal

abbrev pub invariant-loop-to : goal.invariant-loop-to
invariant-loop-to l =
    Gains (λ y. AllByRecursion (ToSuccessor (plan_seen l.plan) (coming_seen l.coming) y) (take l.to-index l.list))
    (map known_seen l.fn.search.table.items) l.fn.search.todo.items (map known_seen l.search.table.items) l.search.todo.items
