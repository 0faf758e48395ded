-- What the content of a Code attribute is, with instructions in the place of offsets (JVMS 4.7.3).
use Rattle.std.specs.Prelude.{◌≡◌, ℕ, ◌+◌, ◌≤◌, List, Option, option_map, length}
use Rattle.std.specs.List.{AllByRecursion}
use Rattle.je_consts.specs.declared.place.Place.{Place}
use Rattle.je_instr.specs.Decoding.{Decodes}
use Rattle.je_code.specs.declared.attr.CodeAttr.{CodeAttr}
use Rattle.je_code.specs.declared.rows.LineRow.{LineRow}
use Rattle.je_code.specs.declared.rows.VarRow.{VarRow}
use Rattle.je_code.specs.Code.{AttributeInfo, Code, CodeBytes}
use Rattle.je_code.specs.Rows.{LineInfo, VarInfo, line_parts, var_parts, line_rows, var_rows}
use Rattle.je_code.specs.Tables.{first_named, ReadsTable, line_number_table, local_variable_table}
use Rattle.je_code.specs.Tables.{local_variable_type_table, stack_map_table}

-- the rows by indexes that an attribute of these bytes has
pub record ReadsLines (attribute : Option AttributeInfo) (offsets : List ℕ) (rows : List LineRow)
    : Type 0 where
  pub infos : List LineInfo
  pub table : ReadsTable line_parts attribute infos
  pub rows_are : rows ≡ line_rows offsets infos

pub record ReadsVars (attribute : Option AttributeInfo) (offsets : List ℕ) (rows : List VarRow)
    : Type 0 where
  pub infos : List VarInfo
  pub table : ReadsTable var_parts attribute infos
  pub rows_are : rows ≡ var_rows offsets infos

-- The bytes are those of this Code, over these constants: its sizes, its program at the offsets of
-- its instructions, the rows of the first table of each name, and the bytes of the first
-- StackMapTable.
pub record IsCodeAttr (consts : List Place) (info : List ℕ) (attr : CodeAttr) : Type 0 where
  pub code : Code
  pub bytes : CodeBytes info code
  pub max_stack : attr.max_stack ≡ code.max_stack
  pub max_locals : attr.max_locals ≡ code.max_locals
  pub decodes : Decodes consts code.code code.handlers attr.decoded
  pub lines : ReadsLines (first_named consts line_number_table code.attributes)
      attr.decoded.offsets attr.lines
  pub vars : ReadsVars (first_named consts local_variable_table code.attributes)
      attr.decoded.offsets attr.vars
  pub var_types : ReadsVars (first_named consts local_variable_type_table code.attributes)
      attr.decoded.offsets attr.var_types
  pub map : attr.map
      ≡ option_map (λ (a : AttributeInfo). a.bytes)
      (first_named consts stack_map_table code.attributes)

-- ---- rows within the code

-- a row stands at one of so many instructions, or at the end
abbrev pub IsLineWithin : ℕ → LineRow → Type 0
IsLineWithin count row = row.start ≤ count

abbrev pub IsVarWithin : ℕ → VarRow → Type 0
IsVarWithin count row = (row.start ≤ row.end) × (row.end ≤ count)

-- The rows stand within the code, which has an offset for each instruction and one for the end,
-- and are no more than the count of a table can say.
pub record HasRowsWithin (attr : CodeAttr) : Type 0 where
  pub offsets : length attr.decoded.offsets ≡ length attr.decoded.program.instrs + 1
  pub lines : AllByRecursion (IsLineWithin (length attr.decoded.program.instrs)) attr.lines
  pub vars : AllByRecursion (IsVarWithin (length attr.decoded.program.instrs)) attr.vars
  pub var_types : AllByRecursion (IsVarWithin (length attr.decoded.program.instrs)) attr.var_types
  pub few_lines : length attr.lines ≤ 65535
  pub few_vars : length attr.vars ≤ 65535
  pub few_var_types : length attr.var_types ≤ 65535
