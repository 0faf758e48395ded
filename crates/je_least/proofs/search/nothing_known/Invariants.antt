use Rattle.std.proofs.Common.{◌≡◌, map, replicate}
use Rattle.je_shape.specs.Shape.{Nothing}
use Rattle.je_least.specs.Knowns.{known_seen}
use Rattle.je_least.proofs.search.nothing_known.Given as goal

abbrev pub invariant-loop : goal.invariant-loop
invariant-loop l = map known_seen l.table.items ≡ replicate l.counter Nothing
