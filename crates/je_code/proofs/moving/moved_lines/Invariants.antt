use Rattle.std.proofs.Common.{◌≡◌, ◌++◌, ◌<◌, length, get_or}
use Rattle.std.specs.List.{AllByRecursion}
use Rattle.je_code.specs.declared.rows.LineRow.{LineRow}
use Rattle.je_code.specs.Moved.{moved_lines}
use Rattle.je_code.proofs.moving.moved_lines.Given as goal

abbrev pub invariant-loop-row : goal.invariant-loop-row
invariant-loop-row l = record {
  all : l.moved.items ++ moved_lines (λ i. get_or l.new_of i 0) l.count l.rest ≡ moved_lines (λ i. get_or l.new_of i 0) l.count l.rows;
  within : AllByRecursion (λ (row : LineRow). row.start < length l.new_of) l.rest;
}

abbrev pub decreases-loop-row : goal.decreases-loop-row
decreases-loop-row l = length l.rest
