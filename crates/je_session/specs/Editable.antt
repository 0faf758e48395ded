-- Serves private functions: the methods whose code can be edited so far, by their instructions.
use Rattle.std.specs.Prelude.{◌≡◌, ◌≢◌, ℕ, List, [], ◌∷◌, ◌++◌, Some, None, slice_get, codes}
use Rattle.std.specs.Prelude.{IsBitSet}
use Rattle.std.specs.List.{AllByRecursion}
use Rattle.je_consts.specs.declared.place.Place.{Place}
use Rattle.je_class.specs.declared.member.Attribute.{Attribute}
use Rattle.je_class.specs.declared.member.Member.{Member}
use Rattle.je_class.specs.Class.{Class, IsMethodAt}
use Rattle.je_machine.specs.Action.{operands_of, result_of}
use Rattle.je_machine.specs.Operation.{Act, Operation, Do, Branch, Goto, Switch}
use Rattle.je_instr.specs.declared.instr.Instr.{Instr}
use Rattle.je_instr.specs.declared.instr.Instr.TheVariants as instr
use Rattle.je_instr.specs.declared.opcodes.TheConstants as op
use Rattle.je_instr.specs.declared.program.Decoded.{Decoded}
use Rattle.je_instr.specs.Decoding.{Decodes}
use Rattle.je_code.specs.declared.attr.CodeAttr.{CodeAttr}
use Rattle.je_code.specs.Code.{Code, CodeBytes}
use Rattle.je_code.specs.CodeAttr.{IsCodeAttr, HasRowsWithin}
use Rattle.je_session.specs.ProgramOf.{IsCode}

-- the method is static and has one attribute, a Code
pub record HasOneCode (consts : List Place) (m : Member) (attribute : Attribute) : Type 0 where
  pub static : IsBitSet m.access 3
  pub attributes : m.attributes ≡ attribute ∷ []
  pub is_code : IsCode consts attribute

-- That Code is this one, without handlers.
pub record IsCodeOf (consts : List Place) (m : Member) (code : CodeAttr) : Type 0 where
  pub attribute : Attribute
  pub one : HasOneCode consts m attribute
  pub is_attr : IsCodeAttr consts attribute.bytes code
  pub rows : HasRowsWithin code
  pub no_handlers : code.decoded.program.handlers ≡ []

-- That Code, without handlers, is decoded to this program. What its tables say plays no part.
pub record IsDecodedTo (consts : List Place) (m : Member) (decoded : Decoded) : Type 0 where
  pub attribute : Attribute
  pub one : HasOneCode consts m attribute
  pub code : Code
  pub bytes : CodeBytes attribute.bytes code
  pub decodes : Decodes consts code.code code.handlers decoded
  pub no_handlers : code.handlers ≡ []

-- the instruction that returns without a result
abbrev pub returning : Instr
returning = instr.Simple op.RETURN

-- an operation that jumps nowhere, and that takes nothing and gives nothing where it acts
abbrev pub IsPlain : Operation → Type 0
IsPlain (Do (Act action)) = (operands_of action ≡ []) × (result_of action ≡ None)
IsPlain (Branch condition target) = ⊥
IsPlain (Goto target) = ⊥
IsPlain (Switch cases fallback) = ⊥
IsPlain _ = Unit {0}

-- one return, and in front of it any number of other instructions
pub record IsReturning (instrs : List Instr) : Type 0 where
  pub front : List Instr
  pub last : instrs ≡ front ++ returning ∷ []
  pub no_return : AllByRecursion (λ i. i ≢ returning) front

-- The method of this name stands at this place, and has this code.
pub record IsEditable (c : Class) (name : List ℕ) (at : ℕ) (code : CodeAttr) : Type 0 where
  pub is_method : IsMethodAt c name (codes "()V") at
  pub method : Member
  pub here : slice_get c.methods at ≡ Some method
  pub code_of : IsCodeOf c.consts method code
  pub returning : IsReturning code.decoded.program.instrs
