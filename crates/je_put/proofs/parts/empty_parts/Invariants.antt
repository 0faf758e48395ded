use Rattle.std.proofs.Common.{[]}
use Rattle.je_put.specs.Parts.{HasParts}
use Rattle.je_put.proofs.parts.empty_parts.Given as goal

abbrev pub invariant-loop : goal.invariant-loop
invariant-loop l = HasParts [] [] l.counter l.table.items
