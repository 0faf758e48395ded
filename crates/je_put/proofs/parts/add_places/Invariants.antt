use Rattle.std.proofs.Common.{◌≡◌, length}
use Rattle.je_put.specs.Parts.{with_places, RowsBecome}
use Rattle.je_put.proofs.parts.add_places.Given as goal

abbrev pub invariant-loop-place : goal.invariant-loop-place
invariant-loop-place l = record {
  rows : RowsBecome (λ i. with_places i l.rest) (λ i. with_places i l.places) l.fn.table.items l.table.items;
  long : length l.table.items ≡ length l.fn.table.items;
}

abbrev pub decreases-loop-place : goal.decreases-loop-place
decreases-loop-place l = length l.rest
