-- The program that the code of a method is.
use Rattle.std.specs.Prelude.{◌≡◌, ℕ, ◌<◌, List, ◌∷◌, map, Bool, true, false, Option, Some, None}
use Rattle.std.specs.List.{AllByRecursion, AllZip}
use Rattle.je_consts.specs.declared.place.Place.{Place}
use Rattle.je_desc.specs.Names.{IsClassName}
use Rattle.je_desc.specs.Descriptor.{MethodTypes, SpellsMethod}
use Rattle.je_machine.specs.Content.{Class}
use Rattle.je_machine.specs.Value.{Kind, ReferenceKind, kind_of}
use Rattle.je_machine.specs.Operation.{Handler, Program}
use Rattle.je_instr.specs.declared.instr.Case.{Case}
use Rattle.je_instr.specs.declared.instr.Instr.{Instr}
use Rattle.je_instr.specs.declared.instr.Instr.TheVariants as instr
use Rattle.je_instr.specs.declared.program.Decoded.{Decoded}
use Rattle.je_instr.specs.declared.program.Handler as entries
use Rattle.je_instr.specs.declared.program.RawHandler.{RawHandler}
use Rattle.je_instr.specs.Content.{content_at}
use Rattle.je_instr.specs.Decoding.{Decodes}
use Rattle.je_instr.specs.Resolves.{Resolves}

-- ---- parameters

-- the kinds of a method's parameters, of which `this` is the first unless it is static
abbrev pub parameters_of : Bool → MethodTypes → List Kind
parameters_of true types = map kind_of types.params
parameters_of false types = ReferenceKind ∷ map kind_of types.params

-- ---- targets

-- each target is one of so many instructions
abbrev pub HasTargets : ℕ → Instr → Type 0
HasTargets count (instr.Branch opcode target) = target < count
HasTargets count (instr.Goto target) = target < count
HasTargets count (instr.TableSwitch low targets fallback) =
    AllByRecursion (λ target. target < count) targets × (fallback < count)
HasTargets count (instr.LookupSwitch cases fallback) =
    AllByRecursion (λ (c : Case). c.target < count) cases × (fallback < count)
HasTargets count _ = Unit {0}

-- ---- handlers

-- the class that a handler catches, by the index of a constant, or 0 for all
abbrev pub Catches : List Place → ℕ → Option (List ℕ) → Type 0
Catches consts index None = index ≡ 0
Catches consts index (Some name) =
    (content_at consts index ≡ Some (Class name)) × IsClassName name

-- An entry of the exception table with indexes, and the class that it catches in place of its
-- constant (JVMS 4.7.3).
pub record IsHandlerOf (consts : List Place) (entry : entries.Handler) (handler : Handler)
    : Type 0 where
  pub start : handler.start ≡ entry.start
  pub end : handler.end ≡ entry.end
  pub target : handler.target ≡ entry.target
  pub catches : Catches consts entry.catch_const handler.catch_class

-- ---- the whole

-- The program of a method that has these constants, is static or not, and has this descriptor, this
-- code and this exception table (JVMS 4.7.3). Its operations are the instructions that the code is
-- decoded to, each with what it names in place.
pub record CodeProgram (consts : List Place) (is_static : Bool) (text code : List ℕ)
    (table : List RawHandler) (program : Program) : Type 0 where
  pub types : MethodTypes
  pub descriptor : SpellsMethod text types
  pub parameters : program.parameters ≡ parameters_of is_static types
  pub decoded : Decoded
  pub decodes : Decodes consts code table decoded
  pub resolved : AllZip (Resolves consts) decoded.program.instrs program.operations
  pub handlers : AllZip (IsHandlerOf consts) decoded.program.handlers program.handlers
