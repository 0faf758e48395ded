use Rattle.std.proofs.Common.{◌≡◌, ◌-◌, ◌++◌, length, map}
use Rattle.std.specs.List.{AllByRecursion}
use Rattle.je_base.specs.Parts.{each}
use Rattle.je_code.specs.Code.{spelled, IsSound}
use Rattle.je_code.specs.Moved.{IsVarInside}
use Rattle.je_code.specs.Rows.{var_parts, var_info}
use Rattle.je_code.specs.Writing.{var_table}
use Rattle.je_code.proofs.tabling.var_table.Given as goal

abbrev pub invariant-loop-row : goal.invariant-loop-row
invariant-loop-row l = record {
  bytes : l.out.items ++ spelled (each var_parts (map (var_info l.offsets) l.rest)) ≡ spelled (var_table l.offsets l.rows);
  sound : IsSound (each var_parts (map (var_info l.offsets) l.rest)) → IsSound (var_table l.offsets l.rows);
  inside : AllByRecursion (IsVarInside (length l.offsets - 1)) l.rest;
}

abbrev pub decreases-loop-row : goal.decreases-loop-row
decreases-loop-row l = length l.rest
