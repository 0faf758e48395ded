-- What the operands of an instruction may be (JVMS 4.9.1 and 6.5).
use Rattle.std.specs.Prelude.{◌≡◌, ◌≢◌, ℕ, ◌+◌, ◌<◌, ◌≤◌, ◌⊎◌, ℤ, pos, ◌+ℤ◌, ◌<ℤ◌, FitsSigned, List}
use Rattle.std.specs.Prelude.{[], ◌∷◌, length, Some, None, IsSome, codes}
use Rattle.std.specs.Int.{w16, w32}
use Rattle.je_consts.specs.declared.place.Place.{Place}
use Rattle.je_desc.specs.Names.{IsClassName}
use Rattle.je_desc.specs.FieldType.{FieldType, Base, Object, Array, dimensions, descriptor}
use Rattle.je_desc.specs.Descriptor.{MethodTypes, SpellsField, SpellsMethod, FieldDescriptor}
use Rattle.je_desc.specs.Descriptor.{units_of_params}
use Rattle.je_consts.specs.declared.constant.MemberTag.{MemberTag}
use Rattle.je_consts.specs.declared.constant.MemberTag.TheVariants as tags
use Rattle.je_machine.specs.Content.{Content, Integer, Float}
use Rattle.je_machine.specs.Content.{LongInteger, Double, Class, Str, Member, MethodHandle}
use Rattle.je_machine.specs.Content.{MethodType}
use Rattle.je_machine.specs.Content as content
use Rattle.je_machine.specs.Action.{Sort, Virtual, Special, Static, Interface, Dynamic}
use Rattle.je_instr.specs.declared.instr.Case.{Case}
use Rattle.je_instr.specs.declared.instr.Instr.{Instr}
use Rattle.je_instr.specs.declared.instr.Instr.TheVariants as instr
use Rattle.je_instr.specs.Content.{Names}
use Rattle.je_instr.specs.Opcodes.{beside, simple_operation, local_operations, conditions}
use Rattle.je_instr.specs.Opcodes.{field_actions, sorts, array_types}

-- ---- classes

-- The type of the class that a constant of this text names: a class by its name, an array by its
-- descriptor (JVMS 4.4.1).
abbrev pub NamesType : List ℕ → FieldType → Type 0
NamesType text (Base base) = ⊥
NamesType text (Object name) = IsClassName name × (text ≡ name)
NamesType text (Array component) = SpellsField text (Array component)

abbrev pub IsClassText : List ℕ → Type 0
IsClassText text = (type : FieldType) × NamesType text type

-- a class that is so
abbrev pub IsClass : (List ℕ → Type 0) → Content → Type 0
IsClass P (Class text) = P text
IsClass P _ = ⊥

-- An array of this type can be made: it has at most 255 dimensions, and its descriptor fits a
-- constant.
pub record IsMadeOf (text : List ℕ) (type : FieldType) : Type 0 where
  pub names : NamesType text type
  pub within : dimensions type ≤ 254
  pub short : length (descriptor (Array type)) ≤ 65535

-- an array of this type, with sizes for so many of its dimensions
pub record HasDimensions (count : ℕ) (text : List ℕ) (type : FieldType) : Type 0 where
  pub names : NamesType text type
  pub some : 1 ≤ count
  pub within : count ≤ dimensions type

-- ---- fields and methods

-- neither a constructor nor a class initialiser (JVMS 2.9)
pub record IsPlainName (name : List ℕ) : Type 0 where
  pub no_constructor : name ≢ codes "<init>"
  pub no_initialiser : name ≢ codes "<clinit>"

pub record IsField (class name text : List ℕ) : Type 0 where
  pub class_text : IsClassText class
  pub plain : IsPlainName name
  pub descriptor : FieldDescriptor text

abbrev pub AllowsField : Content → Type 0
AllowsField (Member tags.Field class name text) = IsField class name text
AllowsField _ = ⊥

-- the sort of a call goes with the sort of a member
abbrev pub TakesTag : Sort → MemberTag → Type 0
TakesTag Virtual tag = tag ≡ tags.Method
TakesTag Special tag = (tag ≡ tags.Method) ⊎ (tag ≡ tags.InterfaceMethod)
TakesTag Static tag = (tag ≡ tags.Method) ⊎ (tag ≡ tags.InterfaceMethod)
TakesTag Interface tag = tag ≡ tags.InterfaceMethod
TakesTag Dynamic tag = ⊥

-- A constructor is called by invokespecial alone and has no result, a class initialiser by none.
pub record IsCalledName (sort : Sort) (name : List ℕ) (types : MethodTypes) : Type 0 where
  pub constructor : name ≡ codes "<init>" → (sort ≡ Special) × (types.result ≡ None)
  pub no_initialiser : name ≢ codes "<clinit>"

pub record IsMethod (sort : Sort) (tag : MemberTag) (class name text : List ℕ)
    (types : MethodTypes) : Type 0 where
  pub takes_tag : TakesTag sort tag
  pub class_text : IsClassText class
  pub called : IsCalledName sort name types
  pub descriptor : SpellsMethod text types

pub record IsDynamic (name text : List ℕ) (types : MethodTypes) : Type 0 where
  pub called : IsCalledName Dynamic name types
  pub descriptor : SpellsMethod text types

-- a call of this sort may be of the constant, and the method has these types
abbrev pub Calls : Sort → MethodTypes → Content → Type 0
Calls sort types (Member tag class name text) = IsMethod sort tag class name text types
Calls Dynamic types (content.InvokeDynamic bootstrap name text) = IsDynamic name text types
Calls sort types _ = ⊥

abbrev pub AllowsCall : Sort → Content → Type 0
AllowsCall sort content = (types : MethodTypes) × Calls sort types content

-- invokeinterface has the count of the slots of all arguments, with the object
abbrev pub AllowsCounted : ℕ → Content → Type 0
AllowsCounted count content =
    (types : MethodTypes) × Calls Interface types content × (count ≡ units_of_params types + 1)

-- ---- constants that are loaded

abbrev pub AllowsLdc : Content → Type 0
AllowsLdc (Integer n) = Unit {0}
AllowsLdc (Float bits) = Unit {0}
AllowsLdc (Class text) = IsClassText text
AllowsLdc (Str text) = Unit {0}
AllowsLdc (MethodHandle kind tag class name text) = Unit {0}
AllowsLdc (MethodType text) = Unit {0}
AllowsLdc _ = ⊥

abbrev pub AllowsLdc2 : Content → Type 0
AllowsLdc2 (LongInteger n) = Unit {0}
AllowsLdc2 (Double bits) = Unit {0}
AllowsLdc2 _ = ⊥

-- ---- switches

-- a switch of so many keys from the least one on: there are some, and the greatest is an int
pub record AreKeys (low : ℤ) (count : ℕ) : Type 0 where
  pub some : 0 < count
  pub last : (high : ℤ) × FitsSigned w32 high × (high +ℤ pos 1 ≡ low +ℤ pos count)

-- each key is less than the one behind it
abbrev pub AreRising : List Case → Type 0
AreRising [] = Unit {0}
AreRising (c ∷ []) = Unit {0}
AreRising (c ∷ d ∷ cases) = (c.key <ℤ d.key) × AreRising (d ∷ cases)

-- ---- the whole

abbrev pub IsAllowed : List Place → Instr → Type 0
IsAllowed consts (instr.Simple opcode) = IsSome (simple_operation opcode)
IsAllowed consts (instr.IntPush n) = FitsSigned w16 n
IsAllowed consts (instr.Ldc index) = Names consts index AllowsLdc
IsAllowed consts (instr.Ldc2 index) = Names consts index AllowsLdc2
IsAllowed consts (instr.Local opcode slot) = IsSome (beside local_operations opcode)
IsAllowed consts (instr.Iinc slot by) = Unit {0}
IsAllowed consts (instr.Branch opcode target) = IsSome (beside conditions opcode)
IsAllowed consts (instr.Goto target) = Unit {0}
IsAllowed consts (instr.TableSwitch low targets fallback) = AreKeys low (length targets)
IsAllowed consts (instr.LookupSwitch cases fallback) = AreRising cases
IsAllowed consts (instr.Field opcode index) =
    IsSome (beside field_actions opcode) × Names consts index AllowsField
IsAllowed consts (instr.Invoke opcode index) =
    (sort : Sort) × (beside sorts opcode ≡ Some sort) × Names consts index (AllowsCall sort)
IsAllowed consts (instr.InvokeInterface index count) = Names consts index (AllowsCounted count)
IsAllowed consts (instr.InvokeDynamic index) = Names consts index (AllowsCall Dynamic)
IsAllowed consts (instr.New index) = Names consts index (IsClass IsClassName)
IsAllowed consts (instr.NewArray code) = IsSome (beside array_types code)
IsAllowed consts (instr.ANewArray index) =
    Names consts index (IsClass (λ text. (type : FieldType) × IsMadeOf text type))
IsAllowed consts (instr.CheckCast index) = Names consts index (IsClass IsClassText)
IsAllowed consts (instr.InstanceOf index) = Names consts index (IsClass IsClassText)
IsAllowed consts (instr.MultiNew index count) =
    Names consts index (IsClass (λ text. (type : FieldType) × HasDimensions count text type))
