-- What an instruction of the code is, once what its index names stands in its place.
use Rattle.std.specs.Prelude.{◌≡◌, ℕ, ℤ, pos, ◌+ℤ◌, List, [], ◌∷◌, map, Option, Some, None}
use Rattle.std.specs.Prelude.{option_map}
use Rattle.je_consts.specs.declared.place.Place.{Place}
use Rattle.je_desc.specs.FieldType.{FieldType, Base, Array}
use Rattle.je_desc.specs.Descriptor.{MethodTypes, SpellsField}
use Rattle.je_machine.specs.Content.{Content, Integer, Float, LongInteger, Double, Class, Str}
use Rattle.je_machine.specs.Content.{Member, MethodHandle, MethodType}
use Rattle.je_consts.specs.declared.constant.MemberTag.TheVariants as tags
use Rattle.je_machine.specs.Value.{Value, Int, Long, Flt, Dbl, Const}
use Rattle.je_machine.specs.Action.{Field, Sort, Interface, Dynamic, Action, Invoke, New, NewArray}
use Rattle.je_machine.specs.Action.{CheckCast, InstanceOf}
use Rattle.je_machine.specs.Operation.{Push, Act, Operation, Do, Increment, Branch, Goto, Switch}
use Rattle.je_instr.specs.declared.instr.Case.{Case}
use Rattle.je_instr.specs.declared.instr.Instr.{Instr}
use Rattle.je_instr.specs.declared.instr.Instr.TheVariants as instr
use Rattle.je_instr.specs.Allowed.{NamesType, Calls, IsAllowed}
use Rattle.je_instr.specs.Content.{Names}
use Rattle.je_instr.specs.Opcodes.{beside, simple_operation, local_operations, conditions}
use Rattle.je_instr.specs.Opcodes.{field_actions, sorts, array_types}

abbrev act : Action → Operation
act action = Do (Act action)

-- ---- constants

-- what ldc pushes
abbrev pub loaded : Content → Option Value
loaded (Integer n) = Some (Int n)
loaded (Float bits) = Some (Flt bits)
loaded (Class text) = Some (Const (Class text))
loaded (Str text) = Some (Const (Str text))
loaded (MethodHandle kind tag class name text) =
    Some (Const (MethodHandle kind tag class name text))
loaded (MethodType text) = Some (Const (MethodType text))
loaded _ = None

-- what ldc2_w pushes
abbrev pub loaded2 : Content → Option Value
loaded2 (LongInteger n) = Some (Long n)
loaded2 (Double bits) = Some (Dbl bits)
loaded2 _ = None

abbrev pub pushed : Option Value → Option Operation
pushed value = option_map (λ v. Do (Push v)) value

-- the constant is this field
abbrev pub IsFieldOf : Field → Content → Type 0
IsFieldOf f (Member tags.Field class name text) =
    (f.class ≡ class) × (f.name ≡ name) × SpellsField text f.type
IsFieldOf f _ = ⊥

abbrev pub FieldOperation : ℕ → Operation → Content → Type 0
FieldOperation opcode operation content =
    (f : Field) × IsFieldOf f content
    × (option_map (λ make. act (make f)) (beside field_actions opcode) ≡ Some operation)

abbrev pub CallOperation : Sort → Operation → Content → Type 0
CallOperation sort operation content =
    (types : MethodTypes) × Calls sort types content
    × (operation ≡ act (Invoke sort content types))

-- made of the text of a class
abbrev pub OfClass : (List ℕ → Action) → Operation → Content → Type 0
OfClass make operation (Class text) = operation ≡ act (make text)
OfClass make operation _ = ⊥

-- made of the type that a class's text names
abbrev pub OfType : (FieldType → Action) → Operation → Content → Type 0
OfType make operation (Class text) =
    (type : FieldType) × NamesType text type × (operation ≡ act (make type))
OfType make operation _ = ⊥

-- ---- switches

-- the targets belong to the keys from this one on
abbrev pub table_cases : ℤ → List ℕ → List (ℤ × ℕ)
table_cases key [] = []
table_cases key (target ∷ targets) = (key, target) ∷ table_cases (key +ℤ pos 1) targets

abbrev pub lookup_cases : List Case → List (ℤ × ℕ)
lookup_cases cases = map (λ c. (c.key, c.target)) cases

-- ---- the whole

-- the operation that an instruction is
abbrev pub Becomes : List Place → Instr → Operation → Type 0
Becomes consts (instr.Simple opcode) operation = simple_operation opcode ≡ Some operation
Becomes consts (instr.IntPush n) operation = operation ≡ Do (Push (Int n))
Becomes consts (instr.Ldc index) operation =
    Names consts index (λ c. pushed (loaded c) ≡ Some operation)
Becomes consts (instr.Ldc2 index) operation =
    Names consts index (λ c. pushed (loaded2 c) ≡ Some operation)
Becomes consts (instr.Local opcode slot) operation =
    option_map (λ make. make slot) (beside local_operations opcode) ≡ Some operation
Becomes consts (instr.Iinc slot by) operation = operation ≡ Increment slot by
Becomes consts (instr.Branch opcode target) operation =
    option_map (λ condition. Branch condition target) (beside conditions opcode) ≡ Some operation
Becomes consts (instr.Goto target) operation = operation ≡ Goto target
Becomes consts (instr.TableSwitch low targets fallback) operation =
    operation ≡ Switch (table_cases low targets) fallback
Becomes consts (instr.LookupSwitch cases fallback) operation =
    operation ≡ Switch (lookup_cases cases) fallback
Becomes consts (instr.Field opcode index) operation =
    Names consts index (FieldOperation opcode operation)
Becomes consts (instr.Invoke opcode index) operation =
    (sort : Sort) × (beside sorts opcode ≡ Some sort)
    × Names consts index (CallOperation sort operation)
Becomes consts (instr.InvokeInterface index count) operation =
    Names consts index (CallOperation Interface operation)
Becomes consts (instr.InvokeDynamic index) operation =
    Names consts index (CallOperation Dynamic operation)
Becomes consts (instr.New index) operation = Names consts index (OfClass New operation)
Becomes consts (instr.NewArray code) operation =
    option_map (λ base. act (NewArray (Array (Base base)) 1)) (beside array_types code)
    ≡ Some operation
Becomes consts (instr.ANewArray index) operation =
    Names consts index (OfType (λ type. NewArray (Array type) 1) operation)
Becomes consts (instr.CheckCast index) operation = Names consts index (OfClass CheckCast operation)
Becomes consts (instr.InstanceOf index) operation =
    Names consts index (OfClass InstanceOf operation)
Becomes consts (instr.MultiNew index count) operation =
    Names consts index (OfType (λ type. NewArray type count) operation)

-- The instruction, with what its index names in place. It is an operation where its operands are
-- allowed.
pub record Resolves (consts : List Place) (i : Instr) (operation : Operation) : Type 0 where
  pub allowed : IsAllowed consts i
  pub becomes : Becomes consts i operation
