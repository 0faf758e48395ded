use Rattle.std.proofs.Common.{◌≡◌, length}
use Rattle.je_put.specs.Parts.{with_entries, RowsBecome}
use Rattle.je_put.proofs.parts.add_entries.Given as goal

abbrev pub invariant-loop-entry : goal.invariant-loop-entry
invariant-loop-entry l = record {
  rows : RowsBecome (λ i. with_entries i l.rest) (λ i. with_entries i l.entries) l.fn.table.items l.table.items;
  long : length l.table.items ≡ length l.fn.table.items;
}

abbrev pub decreases-loop-entry : goal.decreases-loop-entry
decreases-loop-entry l = length l.rest
