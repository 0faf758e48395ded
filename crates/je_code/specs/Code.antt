-- The Code attribute as its parts, one after the other (JVMS 4.7.3), with what is tested of them.
use Rattle.std.specs.Prelude.{◌≡◌, ℕ, ◌<◌, ◌≤◌, List, [], ◌∷◌, ◌++◌, length}
use Rattle.std.specs.List.{AllByRecursion}
use Rattle.je_base.specs.Parts as form
use Rattle.je_base.specs.Parts.{U2, U4, Run, Format, table_parts, IsSoundPart}
use Rattle.je_instr.specs.declared.fault.CodeFault.{CodeFault}
use Rattle.je_instr.specs.declared.fault.CodeFault.TheVariants.{BadLayout}
use Rattle.je_instr.specs.declared.program.RawHandler.{RawHandler}
-- an attribute of the code: the index of its name, and its bytes
pub use Rattle.je_code.specs.declared.info.AttributeInfo.{AttributeInfo}

-- the content of a Code attribute
pub record Code : Type 0 where
  pub max_stack : ℕ
  pub max_locals : ℕ
  pub code : List ℕ
  pub handlers : List RawHandler
  pub attributes : List AttributeInfo

-- ---- tests

-- there is code, of at most 65,535 bytes
pub data Test : Type 0 where
  IsCodeLength : (length : ℕ) → Test

abbrev pub Passes : Test → Type 0
Passes (IsCodeLength length) = (0 < length) × (length ≤ 65535)

-- the fault where it does not pass, by the offset at which the number begins
abbrev pub fault_of : Test → ℕ → CodeFault
fault_of (IsCodeLength length) at = BadLayout at

-- ---- the format

-- numbers with this test, and runs of bytes; nothing is nested
abbrev pub code_format : Format Test ⊥ CodeFault
code_format = record {
  Passes = Passes;
  fault_of = fault_of;
  cut = BadLayout;
  value_bytes = λ value. [];
  IsSoundValue = λ value. ⊥;
  IsValueFault = λ bytes at fault. ⊥;
}

abbrev pub Part : Type 0
Part = form.Part Test ⊥

-- the bytes of the parts, one after the other
abbrev pub spelled : List Part → List ℕ
spelled parts = form.spelled code_format parts

-- an entry of the exception table
abbrev pub handler_parts : RawHandler → List Part
handler_parts h = U2 h.start [] ∷ U2 h.end [] ∷ U2 h.target [] ∷ U2 h.catch_const [] ∷ []

-- attribute_info (JVMS 4.7)
abbrev pub attribute_parts : AttributeInfo → List Part
attribute_parts a = U2 a.name [] ∷ U4 (length a.bytes) [] ∷ Run a.bytes [] ∷ []

abbrev pub code_parts : Code → List Part
code_parts c =
    U2 c.max_stack [] ∷ U2 c.max_locals []
    ∷ U4 (length c.code) (IsCodeLength (length c.code) ∷ []) ∷ Run c.code []
    ∷ (table_parts handler_parts c.handlers ++ table_parts attribute_parts c.attributes)

-- Each number fits its bytes, and there is code, of at most 65,535 bytes.
abbrev pub IsSound : List Part → Type 0
IsSound parts = AllByRecursion (IsSoundPart code_format) parts

-- The content of a Code attribute is these parts, and nothing else.
pub record CodeBytes (bytes : List ℕ) (c : Code) : Type 0 where
  pub layout : bytes ≡ spelled (code_parts c)
  pub sound : IsSound (code_parts c)
