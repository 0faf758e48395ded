-- The program of a method.
use Rattle.std.specs.Prelude.{◌≡◌, ◌↔◌, ℕ, List, codes, Some, slice_get, Bool, IsTrue, IsBitSet}
use Rattle.je_consts.specs.declared.place.Place.{Place}
use Rattle.je_consts.specs.Pool.{text_at}
use Rattle.je_class.specs.declared.member.Attribute.{Attribute}
use Rattle.je_class.specs.declared.member.Member.{Member}
use Rattle.je_class.specs.Class.{Class}
use Rattle.je_machine.specs.Operation.{Program}
use Rattle.je_instr.specs.CodeProgram.{CodeProgram}
use Rattle.je_code.specs.Code.{Code, CodeBytes}

-- the attribute's name is `Code`
abbrev pub IsCode : List Place → Attribute → Type 0
IsCode consts a = text_at consts a.name ≡ Some (codes "Code")

-- the method's one attribute of that name, at its place (JVMS 4.7.3)
pub record IsCodeAt (consts : List Place) (attributes : List Attribute) (at : ℕ)
    (attribute : Attribute) : Type 0 where
  pub here : slice_get attributes at ≡ Some attribute
  pub is_code : IsCode consts attribute
  pub only : (i : ℕ) (other : Attribute) → slice_get attributes i ≡ Some other → IsCode consts other
      → i ≡ at

-- The program of a method is that of its Code, by its descriptor and by whether it is static (JVMS
-- 4.6).
pub record ProgramOf (c : Class) (m : Member) (program : Program) : Type 0 where
  pub is_static : Bool
  pub flag : IsTrue is_static ↔ IsBitSet m.access 3
  pub text : List ℕ
  pub descriptor : text_at c.consts m.descriptor ≡ Some text
  pub at : ℕ
  pub attribute : Attribute
  pub is_code : IsCodeAt c.consts m.attributes at attribute
  pub code : Code
  pub bytes : CodeBytes attribute.bytes code
  pub of_code : CodeProgram c.consts is_static text code.code code.handlers program
