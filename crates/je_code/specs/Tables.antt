-- The tables of a Code attribute by their names (JVMS 4.7.4 and 4.7.12 to 4.7.14).
use Rattle.std.specs.Prelude.{◌≡◌, ℕ, Bool, false, List, [], Option, Some, None, codes, ◌⊎◌}
use Rattle.std.specs.Option.{option_map_or}
use Rattle.std.specs.List.{find}
use Rattle.je_base.specs.Parts.{table_parts}
use Rattle.je_base.specs.Text.{is_same_text}
use Rattle.je_consts.specs.declared.place.Place.{Place}
use Rattle.je_consts.specs.Pool.{text_at}
use Rattle.je_code.specs.Code.{AttributeInfo, Part, spelled, IsSound}

abbrev pub line_number_table : List ℕ
line_number_table = codes "LineNumberTable"

abbrev pub local_variable_table : List ℕ
local_variable_table = codes "LocalVariableTable"

abbrev pub local_variable_type_table : List ℕ
local_variable_type_table = codes "LocalVariableTypeTable"

abbrev pub stack_map_table : List ℕ
stack_map_table = codes "StackMapTable"

abbrev pub is_named : List Place → List ℕ → AttributeInfo → Bool
is_named consts name attribute =
    option_map_or (is_same_text name) (text_at consts attribute.name) false

-- the first attribute of a name, the one that counts
abbrev pub first_named : List Place → List ℕ → List AttributeInfo → Option AttributeInfo
first_named consts name attributes = find (is_named consts name) attributes

-- the bytes are a count of two bytes, and that many of these rows
pub record IsTable {A : Type 0} (parts : A → List Part) (bytes : List ℕ) (rows : List A)
    : Type 0 where
  pub layout : bytes ≡ spelled (table_parts parts rows)
  pub sound : IsSound (table_parts parts rows)

-- The rows that are read from an attribute. One that is not there, or is no table, has no rows.
abbrev pub ReadsTable : {A : Type 0} → (A → List Part) → Option AttributeInfo → List A → Type 0
ReadsTable parts None rows = rows ≡ []
ReadsTable {A} parts (Some attribute) rows =
    IsTable parts attribute.bytes rows
    ⊎ (((others : List A) → IsTable parts attribute.bytes others → ⊥) × (rows ≡ []))
