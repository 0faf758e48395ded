-- An entry of a constant pool as its parts, one after the other (JVMS 4.4), each with what is
-- tested of it.
use Rattle.std.specs.Prelude.{◌≡◌, ℕ, List, [], ◌∷◌, length}
use Rattle.std.specs.Int.{w32, w64, cast_unsigned}
use Rattle.je_base.specs.Parts as form
use Rattle.je_base.specs.Parts.{U1, U2, U4, U8, Run, Format}
use Rattle.je_base.specs.Text.{IsModifiedUtf8}
use Rattle.je_consts.specs.declared.constant.Const.{Const}
use Rattle.je_consts.specs.declared.constant.Const.TheVariants.{Utf8, Integer, Float, Long, Double}
use Rattle.je_consts.specs.declared.constant.Const.TheVariants.{Class, Str, Field, Method}
use Rattle.je_consts.specs.declared.constant.Const.TheVariants.{InterfaceMethod, NameAndType}
use Rattle.je_consts.specs.declared.constant.Const.TheVariants.{MethodHandle, MethodType}
use Rattle.je_consts.specs.declared.constant.Const.TheVariants.{InvokeDynamic}
use Rattle.je_consts.specs.declared.fault.ConstFault.{ConstFault}
use Rattle.je_consts.specs.declared.fault.ConstFault.TheVariants.{Truncated, BadConst}
use Rattle.je_consts.specs.Tags.{IsKind}
use Rattle.je_consts.specs.Pool.{tag}

-- ---- tests

-- what is tested of a number or of a run of bytes once it is read
pub data Test : Type 0 where
  HasTag : (number : ℕ) → Test
  HasKind : (number : ℕ) → Test
  HasText : (bytes : List ℕ) → Test

-- some entry has the tag; the kind is one of a method handle (JVMS 4.4.8); the bytes are a text
-- (JVMS 4.4.7)
abbrev pub Passes : Test → Type 0
Passes (HasTag number) = (c : Const) × (tag c ≡ number)
Passes (HasKind number) = IsKind number
Passes (HasText bytes) = IsModifiedUtf8 bytes

-- ---- the format

-- a fault, by the index of the entry that it is in
abbrev pub EntryFault : Type 0
EntryFault = ℕ → ConstFault

-- What is cut off is so at its offset, and a test fails for the entry. Its parts are numbers and
-- runs of bytes alone.
abbrev pub entry_format : Format Test ⊥ EntryFault
entry_format = record {
  Passes = Passes;
  fault_of = λ test at. BadConst;
  cut = λ at index. Truncated at;
  value_bytes = λ none. [];
  IsSoundValue = λ none. ⊥;
  IsValueFault = λ bytes at fault. ⊥;
}

abbrev pub Part : Type 0
Part = form.Part Test ⊥

-- ---- entries

abbrev pub tag_part : ℕ → Part
tag_part t = U1 t (HasTag t ∷ [])

-- what stands behind the tag (JVMS 4.4.1 to 4.4.10)
abbrev pub info_parts : Const → List Part
info_parts (Utf8 text) = U2 (length text) [] ∷ Run text (HasText text ∷ []) ∷ []
info_parts (Integer n) = U4 (cast_unsigned w32 n) [] ∷ []
info_parts (Float bits) = U4 bits [] ∷ []
info_parts (Long n) = U8 (cast_unsigned w64 n) [] ∷ []
info_parts (Double bits) = U8 bits [] ∷ []
info_parts (Class name) = U2 name [] ∷ []
info_parts (Str text) = U2 text [] ∷ []
info_parts (Field class member) = U2 class [] ∷ U2 member [] ∷ []
info_parts (Method class member) = U2 class [] ∷ U2 member [] ∷ []
info_parts (InterfaceMethod class member) = U2 class [] ∷ U2 member [] ∷ []
info_parts (NameAndType name descriptor) = U2 name [] ∷ U2 descriptor [] ∷ []
info_parts (MethodHandle kind member) = U1 kind (HasKind kind ∷ []) ∷ U2 member [] ∷ []
info_parts (MethodType descriptor) = U2 descriptor [] ∷ []
info_parts (InvokeDynamic bootstrap member) = U2 bootstrap [] ∷ U2 member [] ∷ []

-- cp_info (JVMS 4.4)
abbrev pub entry_parts : Const → List Part
entry_parts c = tag_part (tag c) ∷ info_parts c
