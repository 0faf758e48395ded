-- The rows of the tables of a Code attribute (JVMS 4.7.12 to 4.7.14): at byte offsets as a class
-- file has them, and at indexes of instructions.
use Rattle.std.specs.Prelude.{ℕ, ◌+◌, ◌-◌, Bool, ◌&&◌, nat_eq, List, [], ◌∷◌, map, filter}
use Rattle.std.specs.Prelude.{slice_index}
use Rattle.std.specs.List.{list_any, position_or_len}
use Rattle.je_base.specs.Parts.{U2}
use Rattle.je_code.specs.declared.rows.LineRow.{LineRow}
use Rattle.je_code.specs.declared.rows.VarRow.{VarRow}
use Rattle.je_code.specs.Code.{Part}
-- entries of the tables: offsets and lengths in bytes, and indexes
pub use Rattle.je_code.specs.declared.info.LineInfo.{LineInfo}
pub use Rattle.je_code.specs.declared.info.VarInfo.{VarInfo}

-- ---- as a class file has them

abbrev pub line_parts : LineInfo → List Part
line_parts i = U2 i.start_pc [] ∷ U2 i.line_number [] ∷ []

abbrev pub var_parts : VarInfo → List Part
var_parts i =
    U2 i.start_pc [] ∷ U2 i.length [] ∷ U2 i.name_index [] ∷ U2 i.signature_index []
    ∷ U2 i.index [] ∷ []

-- ---- from offsets to indexes

-- The offsets are those of all instructions and of the end. An instruction begins at this one, or
-- the code ends there.
abbrev pub is_offset : List ℕ → ℕ → Bool
is_offset offsets offset = list_any (nat_eq offset) offsets

-- the index of the instruction, or of the end, at an offset
abbrev pub index_at : List ℕ → ℕ → ℕ
index_at offsets offset = position_or_len (nat_eq offset) offsets

abbrev pub end_pc : VarInfo → ℕ
end_pc i = i.start_pc + i.length

abbrev pub line_row : List ℕ → LineInfo → LineRow
line_row offsets i = record { start = index_at offsets i.start_pc; line = i.line_number }

abbrev pub var_row : List ℕ → VarInfo → VarRow
var_row offsets i =
    record {
      start = index_at offsets i.start_pc;
      end = index_at offsets (end_pc i);
      name = i.name_index;
      sig = i.signature_index;
      slot = i.index;
    }

-- the tests of an entry: where it begins, and for a variable also where its range ends
abbrev pub is_line : List ℕ → LineInfo → Bool
is_line offsets i = is_offset offsets i.start_pc

abbrev pub is_var : List ℕ → VarInfo → Bool
is_var offsets i = is_offset offsets i.start_pc && is_offset offsets (end_pc i)

-- the rows that stand where an instruction begins or the code ends; others are left out
abbrev pub line_rows : List ℕ → List LineInfo → List LineRow
line_rows offsets infos = map (line_row offsets) (filter (is_line offsets) infos)

abbrev pub var_rows : List ℕ → List VarInfo → List VarRow
var_rows offsets infos = map (var_row offsets) (filter (is_var offsets) infos)

-- ---- from indexes to offsets

abbrev pub line_info : List ℕ → LineRow → LineInfo
line_info offsets row =
    record { start_pc = slice_index offsets row.start; line_number = row.line }

abbrev pub var_info : List ℕ → VarRow → VarInfo
var_info offsets row =
    record {
      start_pc = slice_index offsets row.start;
      length = slice_index offsets row.end - slice_index offsets row.start;
      name_index = row.name;
      signature_index = row.sig;
      index = row.slot;
    }
