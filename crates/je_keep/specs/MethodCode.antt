-- Methods as a class file has them, with their programs and shapes (JVMS 4.6, 4.7.3 and 4.10.1).
use Rattle.std.specs.Prelude.{◌≡◌, ℕ, ◌<◌, List, Bool}
use Rattle.std.specs.List.{AllByRecursion}
use Rattle.je_consts.specs.declared.place.Place.{Place}
use Rattle.je_consts.specs.Pool.{IsPool}
use Rattle.je_desc.specs.Descriptor.{MethodTypes, SpellsMethod}
use Rattle.je_machine.specs.Operation.{Operation}
use Rattle.je_instr.specs.declared.program.RawHandler.{RawHandler}
use Rattle.je_instr.specs.CodeProgram.{CodeProgram}
use Rattle.je_shape.specs.Entry.{entry_of}
use Rattle.je_shape.specs.Least.{Method, Assignment, IsLeast, IsFault, targets_of}

-- each target of the operation is one of so many instructions
abbrev pub StaysWithin : ℕ → Operation → Type 0
StaysWithin count operation = AllByRecursion (λ to. to < count) (targets_of operation)

-- What a class file has of a method: the constant pool of its class, whether it is static, whether
-- it is a constructor, its descriptor, its code and its exception table.
pub record MethodCode : Type 0 where
  pub consts : List Place
  pub is_static : Bool
  pub is_init : Bool
  pub text : List ℕ
  pub code : List ℕ
  pub table : List RawHandler

-- The method has the program of the code, and begins with the shape of the descriptor (JVMS
-- 4.10.1.6).
pub record IsMethodOf (f : MethodCode) (m : Method) : Type 0 where
  pub pool : IsPool f.consts
  pub program : CodeProgram f.consts f.is_static f.text f.code f.table m.program
  pub types : MethodTypes
  pub descriptor : SpellsMethod f.text types
  pub entry : m.entry ≡ entry_of m.class f.is_static f.is_init types

-- the least shapes of a method, none of which is at fault
pub record AreFaultless (m : Method) (x : Assignment) : Type 0 where
  pub least : IsLeast m x
  pub whole : (at : ℕ) → IsFault m x at → ⊥
