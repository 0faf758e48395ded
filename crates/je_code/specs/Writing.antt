-- Serves private functions: tables of rows as parts, and attributes that are put behind other bytes
-- (JVMS 4.7).
use Rattle.std.specs.Prelude.{◌≡◌, ℕ, ◌^◌, ◌<◌, ◌≤◌, Some, List, [], ◌∷◌, ◌++◌, length, map}
use Rattle.std.specs.Prelude.{slice_index}
use Rattle.std.specs.List.{AllZip}
use Rattle.je_base.specs.Bytes.{attribute_info}
use Rattle.je_base.specs.Parts.{U2, U4, Run, each, table_parts}
use Rattle.je_consts.specs.declared.place.Place.{Place}
use Rattle.je_consts.specs.Pool.{text_at}
use Rattle.je_consts.specs.Tags.{most_bytes}
use Rattle.je_instr.specs.declared.program.RawHandler.{RawHandler}
use Rattle.je_code.specs.declared.rows.LineRow.{LineRow}
use Rattle.je_code.specs.declared.rows.Tables.{Tables}
use Rattle.je_code.specs.declared.rows.VarRow.{VarRow}
use Rattle.je_code.specs.Code.{AttributeInfo, Part, spelled, IsCodeLength, IsSound, handler_parts}
use Rattle.je_code.specs.Code.{attribute_parts}
use Rattle.je_code.specs.Rows.{line_parts, var_parts, line_info, var_info}
use Rattle.je_code.specs.Named.{Named, IsNamed}

-- what stands before the attributes of a Code
abbrev pub head_parts : ℕ → ℕ → List ℕ → List RawHandler → List Part
head_parts max_stack max_locals code handlers =
    U2 max_stack [] ∷ U2 max_locals []
    ∷ U4 (length code) (IsCodeLength (length code) ∷ []) ∷ Run code []
    ∷ table_parts handler_parts handlers

-- ---- tables

-- offsets of code of at most 65,535 bytes
abbrev pub AreShort : List ℕ → Type 0
AreShort offsets = (index : ℕ) → slice_index offsets index < 2 ^ 16

abbrev pub line_table : List ℕ → List LineRow → List Part
line_table offsets rows = table_parts line_parts (map (line_info offsets) rows)

abbrev pub var_table : List ℕ → List VarRow → List Part
var_table offsets rows = table_parts var_parts (map (var_info offsets) rows)

-- the numbers of the tables fit their bytes
pub record AreSound (offsets : List ℕ) (tables : Tables) : Type 0 where
  pub lines : IsSound (line_table offsets tables.lines)
  pub vars : IsSound (var_table offsets tables.vars)
  pub var_types : IsSound (var_table offsets tables.var_types)

-- ---- attributes

-- a name that a constant can have
abbrev pub HasShortName : Named → Type 0
HasShortName named = length named.name ≤ most_bytes

-- an attribute is put, with the index of its name
pub record PutsOne (consts : List Place) (named : Named) (old new : List ℕ) : Type 0 where
  pub index : ℕ
  pub name : text_at consts index ≡ Some named.name
  pub bytes : new ≡ old ++ attribute_info index named.bytes
  pub index_fits : index < 2 ^ 16
  pub length_fits : length named.bytes < 2 ^ 32

-- attributes are put, one after the other
pub record PutsAll (consts : List Place) (all : List Named) (old new : List ℕ) : Type 0 where
  pub infos : List AttributeInfo
  pub names : AllZip (IsNamed consts) all infos
  pub bytes : new ≡ old ++ spelled (each attribute_parts infos)
  pub sound : IsSound (each attribute_parts infos)
