-- What an edit of a class leaves as it was.
use Rattle.std.specs.Prelude.{◌≡◌, ◌≢◌, ℕ, ◌<◌, ◌⊎◌, List, [], ◌∷◌, ◌++◌, length, codes, Some, None}
use Rattle.std.specs.Prelude.{slice_get, IsBitSet}
use Rattle.std.specs.List.{AllByRecursion, AllZip}
use Rattle.je_consts.specs.declared.constant.Const.{Const}
use Rattle.je_consts.specs.declared.constant.Const.TheVariants as const
use Rattle.je_consts.specs.declared.place.Place.{Place}
use Rattle.je_consts.specs.Pool.{const_at}
use Rattle.je_class.specs.declared.member.Attribute.{Attribute}
use Rattle.je_class.specs.declared.member.Member.{Member}
use Rattle.je_class.specs.Class.{Class, IsMethodAt}
use Rattle.je_machine.specs.Operation.{Operation, Return, Program}
use Rattle.je_instr.specs.declared.instr.Instr.{Instr}
use Rattle.je_instr.specs.declared.instr.Instr.TheVariants as instr
use Rattle.je_instr.specs.declared.opcodes.TheConstants as op
use Rattle.je_instr.specs.declared.program.RawHandler.{RawHandler}
use Rattle.je_instr.specs.Callee.{IsCallee}
use Rattle.je_code.specs.declared.rows.Tables.{Tables}
use Rattle.je_code.specs.declared.info.AttributeInfo.{AttributeInfo}
use Rattle.je_code.specs.Code.{Code, CodeBytes}
use Rattle.je_code.specs.Named.{IsNamed, tables_of}
use Rattle.je_session.specs.declared.plan.MethodPlan.{MethodPlan}
use Rattle.je_session.specs.Chosen.{matched}
use Rattle.je_session.specs.ProgramOf.{IsCode, IsCodeAt, ProgramOf}

-- the plan is for the method at this place
abbrev pub IsPlanOf : Class → ℕ → MethodPlan → Type 0
IsPlanOf c at plan = IsMethodAt c plan.name (codes "()V") at

abbrev pub IsPlanned : Class → List MethodPlan → ℕ → Type 0
IsPlanned c plans at =
    (plan : MethodPlan) × (k : ℕ) × (slice_get plans k ≡ Some plan) × IsPlanOf c at plan

-- ---- constants

-- the instruction names the constant of this index
abbrev pub NamesConst : ℕ → Instr → Type 0
NamesConst k (instr.Ldc index) = index ≡ k
NamesConst k (instr.Ldc2 index) = index ≡ k
NamesConst k (instr.Field opcode index) = index ≡ k
NamesConst k (instr.Invoke opcode index) = index ≡ k
NamesConst k (instr.InvokeInterface index count) = index ≡ k
NamesConst k (instr.InvokeDynamic index) = index ≡ k
NamesConst k (instr.New index) = index ≡ k
NamesConst k (instr.ANewArray index) = index ≡ k
NamesConst k (instr.CheckCast index) = index ≡ k
NamesConst k (instr.InstanceOf index) = index ≡ k
NamesConst k (instr.MultiNew index count) = index ≡ k
NamesConst k _ = ⊥

-- the constant names that of this index
abbrev pub RefersTo : Const → ℕ → Type 0
RefersTo (const.Class name) k = name ≡ k
RefersTo (const.Str text) k = text ≡ k
RefersTo (const.Field class member) k = (class ≡ k) ⊎ (member ≡ k)
RefersTo (const.Method class member) k = (class ≡ k) ⊎ (member ≡ k)
RefersTo (const.InterfaceMethod class member) k = (class ≡ k) ⊎ (member ≡ k)
RefersTo (const.NameAndType name descriptor) k = (name ≡ k) ⊎ (descriptor ≡ k)
RefersTo (const.MethodHandle kind member) k = member ≡ k
RefersTo (const.MethodType descriptor) k = descriptor ≡ k
RefersTo (const.InvokeDynamic bootstrap member) k = member ≡ k
RefersTo _ k = ⊥

-- The code names the constant of this index: an instruction does, a handler whose catch type it is
-- (JVMS 4.7.3), or an attribute of the code whose name it is. A frame's class stands in the bytes
-- of such an attribute, and no frames are written so far.
pub data NamedByCode (code : Code) (instrs : List Instr) : ℕ → Type 0 where
  by_instr : (k at : ℕ) (i : Instr) → slice_get instrs at ≡ Some i → NamesConst k i
      → NamedByCode code instrs k
  by_handler : (k at : ℕ) (h : RawHandler) → slice_get code.handlers at ≡ Some h → h.catch_const ≡ k
      → NamedByCode code instrs k
  by_attribute : (k at : ℕ) (a : AttributeInfo) → slice_get code.attributes at ≡ Some a → a.name ≡ k
      → NamedByCode code instrs k

-- The code names the constant, or names one behind the first `before` that leads to it through such
-- ones.
pub data IsNeeded (consts : List Place) (before : ℕ) (code : Code) (instrs : List Instr) : ℕ
    → Type 0 where
  by_code : (k : ℕ) → NamedByCode code instrs k → IsNeeded consts before code instrs k
  by_const : (j k : ℕ) (c : Const) → before < j → IsNeeded consts before code instrs j
      → const_at consts j ≡ Some c
      → RefersTo c k → IsNeeded consts before code instrs k

-- Constants stay at their indexes. Each entry that is added is needed by the code of a planned
-- method, and no other index holds this entry. Entries are compared and not what they say in the
-- end: a class file may hold equal texts twice, and then two different entries that name them say
-- the same.
pub record KeepsConsts (old : Class) (plans : List MethodPlan) (new : Class) : Type 0 where
  pub added : (more : List Place) × (new.consts ≡ old.consts ++ more)
  pub needed : (k : ℕ) (c : Const) → length old.consts < k → const_at new.consts k ≡ Some c
      → (at : ℕ) × IsPlanned old plans at
      × (m : Member) × (slice_get new.methods at ≡ Some m)
      × (program : Program) × (p : ProgramOf new m program)
      × IsNeeded new.consts (length old.consts) p.code p.of_code.decoded.program.instrs k
  pub new_entry : (k j : ℕ) (c : Const) → length old.consts < k
      → const_at new.consts k ≡ Some c → const_at new.consts j ≡ Some c → j ≡ k

-- ---- methods

-- an attribute is as it was, but for the bytes of a Code
abbrev pub KeepsAttribute : List Place → Attribute → Attribute → Type 0
KeepsAttribute consts old new = (new ≡ old) ⊎ (IsCode consts old × (new.name ≡ old.name))

-- The Code has tables of lines and of local variables, each left out where it has no rows, and no
-- other attribute: below version 50 it has no StackMapTable (JVMS 4.7.4).
pub record HasTablesAlone (consts : List Place) (m : Member) : Type 0 where
  pub at : ℕ
  pub attribute : Attribute
  pub is_code : IsCodeAt consts m.attributes at attribute
  pub code : Code
  pub bytes : CodeBytes attribute.bytes code
  pub offsets : List ℕ
  pub tables : Tables
  pub alone : AllZip (IsNamed consts) (tables_of offsets tables) code.attributes

-- a planned method: all but the bytes of its Code is as it was
pub record KeepsButCode (old : Class) (m n : Member) : Type 0 where
  pub access : n.access ≡ m.access
  pub name : n.name ≡ m.name
  pub descriptor : n.descriptor ≡ m.descriptor
  pub attributes : AllZip (KeepsAttribute old.consts) m.attributes n.attributes

-- A method without a plan is as it was, and so is one whose plan chooses nothing. Where something
-- is chosen, the attributes of the Code that are no tables are gone.
pub record KeepsMethod (old : Class) (plans : List MethodPlan) (new : Class) (at : ℕ)
    (m n : Member) : Type 0 where
  pub unplanned : (IsPlanned old plans at → ⊥) → n ≡ m
  pub planned : IsPlanned old plans at → KeepsButCode old m n
  pub unchosen : (k : ℕ) (plan : MethodPlan) (program : Program) → slice_get plans k ≡ Some plan
      → IsPlanOf old at plan
      → ProgramOf old m program → matched program plan.rules ≡ 0 → n ≡ m
  pub chosen : (k : ℕ) (plan : MethodPlan) (program : Program) → slice_get plans k ≡ Some plan
      → IsPlanOf old at plan
      → ProgramOf old m program → matched program plan.rules ≢ 0 → HasTablesAlone new.consts n

-- All but the planned methods' code is as it was.
pub record Kept (old : Class) (plans : List MethodPlan) (new : Class) : Type 0 where
  pub minor : new.minor ≡ old.minor
  pub major : new.major ≡ old.major
  pub consts : KeepsConsts old plans new
  pub access : new.access ≡ old.access
  pub this_class : new.this_class ≡ old.this_class
  pub super_class : new.super_class ≡ old.super_class
  pub interfaces : new.interfaces ≡ old.interfaces
  pub fields : new.fields ≡ old.fields
  pub count : length new.methods ≡ length old.methods
  pub methods : (at : ℕ) (m n : Member) → slice_get old.methods at ≡ Some m
      → slice_get new.methods at ≡ Some n → KeepsMethod old plans new at m n
  pub attributes : new.attributes ≡ old.attributes

-- ---- the methods that can be edited so far

-- an instruction that does nothing, one that returns without a result, or a call of a static method
-- without parameters and result
abbrev pub IsSoFar : List Place → Instr → Type 0
IsSoFar consts (instr.Simple opcode) = (opcode ≡ op.NOP) ⊎ (opcode ≡ op.RETURN)
IsSoFar consts (instr.Invoke opcode index) = (opcode ≡ op.INVOKESTATIC) × IsCallee consts index
IsSoFar consts _ = ⊥

-- A method of this name that is static, has one attribute, a Code without handlers, and whose
-- instructions are any number that do nothing or call a static method without parameters and
-- result, and then one that returns. The Code may have attributes.
pub record MethodForm (c : Class) (name : List ℕ) : Type 0 where
  pub at : ℕ
  pub is_method : IsMethodAt c name (codes "()V") at
  pub method : Member
  pub here : slice_get c.methods at ≡ Some method
  pub static : IsBitSet method.access 3
  pub one_attribute : length method.attributes ≡ 1
  pub program : Program
  pub of : ProgramOf c method program
  pub no_handlers : of.code.handlers ≡ []
  pub instrs : AllByRecursion (IsSoFar c.consts) of.of_code.decoded.program.instrs
  pub front : List Operation
  pub operations : program.operations ≡ front ++ Return None ∷ []
  pub no_return : AllByRecursion (λ operation. operation ≢ Return None) front
