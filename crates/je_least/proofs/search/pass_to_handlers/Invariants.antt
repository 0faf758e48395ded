use Rattle.std.proofs.Common.{map, take}
use Rattle.std.specs.List.{AllByRecursion}
use Rattle.std.specs.Option.{option_copied}
use Rattle.je_least.specs.Knowns.{known_seen, thrown_seen}
use Rattle.je_least.specs.Plans.{plan_seen}
use Rattle.je_least.specs.Searching.{Gains}
use Rattle.je_least.proofs.SearchLemmas.{ToHandler}
use Rattle.je_least.proofs.search.pass_to_handlers.Given as goal

abbrev pub invariant-loop-handler : goal.invariant-loop-handler
invariant-loop-handler l =
    Gains (λ y. AllByRecursion (ToHandler (plan_seen l.plan) l.at (thrown_seen (option_copied l.thrown)) y) (take l.handler-index l.handler-items))
    (map known_seen l.fn.search.table.items) l.fn.search.todo.items (map known_seen l.search.table.items) l.search.todo.items
