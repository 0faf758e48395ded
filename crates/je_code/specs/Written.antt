-- The Code attribute that is written, and the names that it adds to the constant pool (JVMS 4.7.3
-- and 4.7.12 to 4.7.14).
use Rattle.std.specs.Prelude.{◌≡◌, ℕ, ◌<◌, ◌≤◌, ◌⊎◌, List, [], ◌∷◌, ◌++◌, length, map}
use Rattle.std.specs.Prelude.{Option, Some, None, Ok, Err}
use Rattle.std.specs.List.{AllZip}
use Rattle.je_consts.specs.declared.constant.Const.TheVariants.{Utf8}
use Rattle.je_consts.specs.declared.fault.PoolStop.{PoolStop}
use Rattle.je_consts.specs.declared.place.Place.{Place}
use Rattle.je_consts.specs.Adding.{Adds}
use Rattle.je_consts.specs.Pool.{const_at}
use Rattle.je_instr.specs.declared.assembled.Assembled.{Assembled}
use Rattle.je_instr.specs.declared.program.Program.{Program}
use Rattle.je_instr.specs.Assembling.{IsProgram, IsAssembled, placed}
use Rattle.je_code.specs.declared.attr.CodeAttr.{CodeAttr}
use Rattle.je_code.specs.declared.rows.Tables.{Tables}
use Rattle.je_code.specs.Code.{Code, CodeBytes}
use Rattle.je_code.specs.Named.{Named, map_of, tables_of, IsNamed}

-- ---- what is written

-- The bytes are a Code of these sizes, this code and exception table, these tables and this
-- StackMapTable, and of nothing else.
pub record IsWritten (consts : List Place) (a : Assembled) (max_stack max_locals : ℕ)
    (tables : Tables) (stack_map : Option (List ℕ)) (bytes : List ℕ) : Type 0 where
  pub code : Code
  pub is_code : CodeBytes bytes code
  pub stack_is : code.max_stack ≡ max_stack
  pub locals_are : code.max_locals ≡ max_locals
  pub code_is : code.code ≡ a.code
  pub handlers_are : code.handlers ≡ a.table
  pub attributes : AllZip (IsNamed consts) (tables_of a.offsets tables ++ map_of stack_map)
      code.attributes

-- ---- names

-- the names of what is written, in their order
abbrev pub names_of : List Named → List (List ℕ)
names_of all = map (λ (named : Named). named.name) all

-- a constant of the pool is this text
abbrev pub HasText : List Place → List ℕ → Type 0
HasText places text = (index : ℕ) × (const_at places index ≡ Some (Utf8 text))

-- What adding these texts in order may answer, the refusal or none, and what it leaves. After a
-- refusal what was added before stands.
abbrev pub AddsTexts : List (List ℕ) → List Place → Option PoolStop → List Place → Type 0
AddsTexts [] old refusal new = (refusal ≡ None) × (new ≡ old)
AddsTexts (text ∷ texts) old refusal new =
    ((e : PoolStop) × (refusal ≡ Some e) × Adds (Utf8 text) old (Err e) new)
    ⊎ ((index : ℕ) × (mid : List Place) × Adds (Utf8 text) old (Ok index) mid
    × AddsTexts texts mid refusal new)

-- ---- what can be written

-- the code is that of some program, has 1 to 65,535 bytes, and no list has more than 65,535 items
pub record CanBeWritten (a : Assembled) (tables : Tables) : Type 0 where
  pub program : Program
  pub is_program : IsProgram program
  pub assembled : IsAssembled program a
  pub some : 0 < length a.code
  pub short : length a.code ≤ 65535
  pub handlers : length a.table ≤ 65535
  pub lines : length tables.lines ≤ 65535
  pub vars : length tables.vars ≤ 65535
  pub var_types : length tables.var_types ≤ 65535

-- ---- what is read again

-- what a Code of this program, these sizes, tables and StackMapTable is read as
abbrev pub attr_of : Program → Assembled → ℕ → ℕ → Tables → Option (List ℕ) → CodeAttr
attr_of p a max_stack max_locals tables stack_map = record {
  max_stack = max_stack;
  max_locals = max_locals;
  decoded = placed p a;
  lines = tables.lines;
  vars = tables.vars;
  var_types = tables.var_types;
  map = stack_map;
}
