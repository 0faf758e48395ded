-- Tables whose instructions move.
use Rattle.std.specs.Prelude.{ℕ, ◌+◌, ◌<◌, ◌≤◌, ◌≡◌, List, ◌&&◌, nat_lt, map, filter, length}
use Rattle.std.specs.Prelude.{slice_index}
use Rattle.std.specs.List.{AllByRecursion}
use Rattle.je_code.specs.declared.attr.CodeAttr.{CodeAttr}
use Rattle.je_code.specs.declared.rows.LineRow.{LineRow}
use Rattle.je_code.specs.declared.rows.VarRow.{VarRow}
use Rattle.je_code.specs.declared.rows.Tables.{Tables}

-- a row at other places
abbrev pub line_under : (ℕ → ℕ) → LineRow → LineRow
line_under to row = record { start = to row.start; line = row.line }

abbrev pub var_under : (ℕ → ℕ) → VarRow → VarRow
var_under to row =
    record {
      start = to row.start;
      end = to row.end;
      name = row.name;
      sig = row.sig;
      slot = row.slot;
    }

-- Rows under a map to the indexes of code of so many instructions. One that becomes empty or stands
-- at the end is left out.
abbrev pub moved_lines : (ℕ → ℕ) → ℕ → List LineRow → List LineRow
moved_lines to count rows =
    filter (λ (row : LineRow). nat_lt row.start count) (map (line_under to) rows)

abbrev pub moved_vars : (ℕ → ℕ) → ℕ → List VarRow → List VarRow
moved_vars to count rows =
    filter (λ (row : VarRow). nat_lt row.start row.end && nat_lt row.start count)
    (map (var_under to) rows)

abbrev pub moved : (ℕ → ℕ) → ℕ → CodeAttr → Tables
moved to count attr = record {
  lines = moved_lines to count attr.lines;
  vars = moved_vars to count attr.vars;
  var_types = moved_vars to count attr.var_types;
}

-- The list gives each index of so many instructions, and that of the end, its new index. It never
-- falls and stays within so many new ones.
pub record IsNewOf (old count : ℕ) (new_of : List ℕ) : Type 0 where
  pub all : length new_of ≡ old + 1
  pub rises : (i j : ℕ) → i ≤ j → j < length new_of → slice_index new_of i ≤ slice_index new_of j
  pub within : AllByRecursion (λ index. index ≤ count) new_of

-- ---- rows that can be written

-- a row stands at one of so many instructions
abbrev pub IsLineInside : ℕ → LineRow → Type 0
IsLineInside count row = row.start < count

abbrev pub IsVarInside : ℕ → VarRow → Type 0
IsVarInside count row = (row.start < row.end) × (row.end ≤ count)

pub record AreInside (count : ℕ) (tables : Tables) : Type 0 where
  pub lines : AllByRecursion (IsLineInside count) tables.lines
  pub vars : AllByRecursion (IsVarInside count) tables.vars
  pub var_types : AllByRecursion (IsVarInside count) tables.var_types

-- no table has more rows than its count of two bytes can say
pub record HaveCounts (tables : Tables) : Type 0 where
  pub lines : length tables.lines ≤ 65535
  pub vars : length tables.vars ≤ 65535
  pub var_types : length tables.var_types ≤ 65535
