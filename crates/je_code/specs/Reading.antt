-- Serves private functions: what the readers of a Code attribute answer, which parts stand at an
-- offset, or the first one that does not.
use Rattle.std.specs.Prelude.{◌≡◌, ℕ, ◌<◌, ◌⊎◌, List, [], ◌∷◌, length, Result, Ok, Err}
use Rattle.std.specs.Prelude.{slice_index, option_map}
use Rattle.je_base.specs.Parts as form
use Rattle.je_base.specs.Parts.{U2, U4, Run, table_parts}
use Rattle.je_instr.specs.declared.fault.CodeFault.{CodeFault}
use Rattle.je_instr.specs.declared.fault.CodeFault.TheVariants.{Memory}
use Rattle.je_consts.specs.declared.place.Place.{Place}
use Rattle.je_instr.specs.declared.program.Decoded.{Decoded}
use Rattle.je_code.specs.declared.attr.CodeAttr.{CodeAttr}
use Rattle.je_code.specs.declared.reading.Parts.{Parts}
use Rattle.je_code.specs.Code.{AttributeInfo, Code, IsCodeLength, code_format, Part}
use Rattle.je_code.specs.CodeAttr.{ReadsLines, ReadsVars}
use Rattle.je_code.specs.Tables.{first_named, line_number_table, local_variable_table}
use Rattle.je_code.specs.Tables.{local_variable_type_table, stack_map_table}

-- what comes of reading the parts from an offset on
abbrev pub Comes : List ℕ → ℕ → List Part → Result ℕ CodeFault → Type 0
Comes bytes at parts answer = form.Comes code_format bytes at parts answer

-- What a function returned, seen by view, is a structure whose parts stand there, and their end;
-- or, unless memory ran out, the first fault of such parts.
abbrev pub Reads : {X A : Type 0}
    → (X → A × ℕ) → List ℕ → ℕ → (A → List Part) → Result X CodeFault → Type 0
Reads view bytes at parts (Ok x) = Comes bytes at (parts (view x).0) (Ok (view x).1)
Reads {A = A} view bytes at parts (Err fault) =
    (fault ≡ Memory) ⊎ ((y : A) × Comes bytes at (parts y) (Err fault))

-- a run of so many bytes that stands there, or the fault that it is cut off
abbrev pub ReadsRun : {X : Type 0}
    → (X → List ℕ × ℕ) → List ℕ → ℕ → ℕ → Result X CodeFault → Type 0
ReadsRun view bytes at size (Ok x) =
    (length (view x).0 ≡ size) × Comes bytes at (Run (view x).0 [] ∷ []) (Ok (view x).1)
ReadsRun view bytes at size (Err fault) =
    (fault ≡ Memory)
    ⊎ ((run : List ℕ) × (length run ≡ size) × Comes bytes at (Run run [] ∷ []) (Err fault))

-- ---- parts of a Code

abbrev pub number_parts : ℕ → List Part
number_parts number = U2 number [] ∷ []

abbrev pub count_parts : ℕ → List Part
count_parts number = U4 number [] ∷ []

abbrev pub code_length_parts : ℕ → List Part
code_length_parts number = U4 number (IsCodeLength number ∷ []) ∷ []

-- the code behind its length
abbrev pub bytecode_parts : List ℕ → List Part
bytecode_parts code = U4 (length code) (IsCodeLength (length code) ∷ []) ∷ Run code [] ∷ []

-- ---- offsets

-- each is below those behind it
abbrev pub IsRising : List ℕ → Type 0
IsRising offsets =
    (i j : ℕ) → i < j → j < length offsets → slice_index offsets i < slice_index offsets j

-- ---- the whole

abbrev pub code_of_parts : Parts → Code
code_of_parts p =
    record {
      max_stack = p.max_stack;
      max_locals = p.max_locals;
      code = p.code;
      handlers = p.handlers.items;
      attributes = p.attributes.items;
    }

-- the content of these parts, whose code is this program, with the tables of its attributes
pub record IsTabled (consts : List Place) (code : Code) (decoded : Decoded) (attr : CodeAttr)
    : Type 0 where
  pub max_stack : attr.max_stack ≡ code.max_stack
  pub max_locals : attr.max_locals ≡ code.max_locals
  pub decoded_is : attr.decoded ≡ decoded
  pub lines : ReadsLines (first_named consts line_number_table code.attributes)
      attr.decoded.offsets attr.lines
  pub vars : ReadsVars (first_named consts local_variable_table code.attributes)
      attr.decoded.offsets attr.vars
  pub var_types : ReadsVars (first_named consts local_variable_type_table code.attributes)
      attr.decoded.offsets attr.var_types
  pub map : attr.map
      ≡ option_map (λ (a : AttributeInfo). a.bytes)
      (first_named consts stack_map_table code.attributes)
