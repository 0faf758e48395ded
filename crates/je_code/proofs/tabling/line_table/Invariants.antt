use Rattle.std.proofs.Common.{◌≡◌, ◌-◌, ◌++◌, length, map}
use Rattle.std.specs.List.{AllByRecursion}
use Rattle.je_base.specs.Parts.{each}
use Rattle.je_code.specs.Code.{spelled, IsSound}
use Rattle.je_code.specs.Moved.{IsLineInside}
use Rattle.je_code.specs.Rows.{line_parts, line_info}
use Rattle.je_code.specs.Writing.{line_table}
use Rattle.je_code.proofs.tabling.line_table.Given as goal

abbrev pub invariant-loop-row : goal.invariant-loop-row
invariant-loop-row l = record {
  bytes : l.out.items ++ spelled (each line_parts (map (line_info l.offsets) l.rest)) ≡ spelled (line_table l.offsets l.rows);
  sound : IsSound (each line_parts (map (line_info l.offsets) l.rest)) → IsSound (line_table l.offsets l.rows);
  inside : AllByRecursion (IsLineInside (length l.offsets - 1)) l.rest;
}

abbrev pub decreases-loop-row : goal.decreases-loop-row
decreases-loop-row l = length l.rest
