-- The tables of a Code attribute by their names, as they are written (JVMS 4.7.4 and 4.7.12 to
-- 4.7.14).
use Rattle.std.specs.Prelude.{◌≡◌, ℕ, List, [], ◌∷◌, ◌++◌, map, Option, Some, None}
use Rattle.je_base.specs.Parts.{table_parts}
use Rattle.je_consts.specs.declared.place.Place.{Place}
use Rattle.je_consts.specs.Pool.{text_at}
use Rattle.je_code.specs.declared.rows.Tables.{Tables}
use Rattle.je_code.specs.Code.{AttributeInfo, Part, spelled}
use Rattle.je_code.specs.Rows.{line_parts, var_parts, line_info, var_info}
use Rattle.je_code.specs.Tables.{line_number_table, local_variable_table}
use Rattle.je_code.specs.Tables.{local_variable_type_table, stack_map_table}
-- an attribute by its name
pub use Rattle.je_code.specs.declared.named.Named.{Named}

-- a table of this name, which is left out where it has no rows
abbrev pub table_of : {A : Type 0} → List ℕ → (A → List Part) → List A → List Named
table_of name parts [] = []
table_of name parts (row ∷ rows) =
    record { name = name; bytes = spelled (table_parts parts (row ∷ rows)) } ∷ []

-- the StackMapTable, where there is one
abbrev pub map_of : Option (List ℕ) → List Named
map_of None = []
map_of (Some bytes) = record { name = stack_map_table; bytes = bytes } ∷ []

-- the tables of rows at the offsets of instructions, in their order
abbrev pub tables_of : List ℕ → Tables → List Named
tables_of offsets tables =
    table_of line_number_table line_parts (map (line_info offsets) tables.lines)
    ++ (table_of local_variable_table var_parts (map (var_info offsets) tables.vars)
    ++ table_of local_variable_type_table var_parts (map (var_info offsets) tables.var_types))

-- an attribute has this name and these bytes
abbrev pub IsNamed : List Place → Named → AttributeInfo → Type 0
IsNamed consts named attribute =
    (text_at consts attribute.name ≡ Some named.name) × (attribute.bytes ≡ named.bytes)
