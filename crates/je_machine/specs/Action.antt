-- What an instruction does that computes, throws, or touches the heap or the outside (JVMS 6.5).
use Rattle.std.specs.Prelude.{ℕ, List, [], ◌∷◌, ◌++◌, map, replicate, Option, Some, None}
use Rattle.std.specs.Prelude.{option_map, Bool, true, false}
use Rattle.je_desc.specs.FieldType.{FieldType}
use Rattle.je_desc.specs.Descriptor.{MethodTypes}
use Rattle.je_machine.specs.Content.{Content}
use Rattle.je_machine.specs.Value.{Kind, IntKind, LongKind, FloatKind, DoubleKind, ReferenceKind}
use Rattle.je_machine.specs.Value.{kind_of}
use Rattle.je_machine.specs.Calculation.{Calculation, calculation_operands, calculation_result}

-- what an instruction takes the elements of an array to be
pub data Element : Type 0 where
  Bytes : Element
  Chars : Element
  Shorts : Element
  Ints : Element
  Longs : Element
  Floats : Element
  Doubles : Element
  References : Element

-- a field as an instruction names it
pub record Field : Type 0 where
  pub class : List ℕ
  pub name : List ℕ
  pub type : FieldType

-- invokevirtual, invokespecial, invokestatic, invokeinterface and invokedynamic
pub data Sort : Type 0 where
  Virtual : Sort
  Special : Sort
  Static : Sort
  Interface : Sort
  Dynamic : Sort

-- Actions carry the class, name and types that they name.
pub data Action : Type 0 where
  -- arithmetic, shifts and conversions of ints and longs, and lcmp
  Calculate : (calculation : Calculation) → Action
  -- arithmetic, comparisons and conversions of floats and doubles, by the opcode
  FloatOperation : (opcode : ℕ) (operands : List Kind) (result : Kind) → Action
  -- arraylength; iaload to saload; iastore to sastore
  ArrayLength : Action
  LoadElement : (element : Element) → Action
  StoreElement : (element : Element) → Action
  -- getfield, putfield, getstatic, putstatic
  GetField : (field : Field) → Action
  PutField : (field : Field) → Action
  GetStatic : (field : Field) → Action
  PutStatic : (field : Field) → Action
  -- calls the method that the content names, of these types
  Invoke : (sort : Sort) (method : Content) (types : MethodTypes) → Action
  -- new
  New : (class : List ℕ) → Action
  -- newarray, anewarray and multianewarray: an array of the type, with sizes for so many dimensions
  NewArray : (type : FieldType) (dimensions : ℕ) → Action
  -- checkcast, instanceof
  CheckCast : (class : List ℕ) → Action
  InstanceOf : (class : List ℕ) → Action
  -- monitorenter, monitorexit
  MonitorEnter : Action
  MonitorExit : Action

abbrev pub kind_of_element : Element → Kind
kind_of_element Longs = LongKind
kind_of_element Floats = FloatKind
kind_of_element Doubles = DoubleKind
kind_of_element References = ReferenceKind
kind_of_element _ = IntKind

-- a call has a target, except a static and a dynamic one
abbrev pub has_receiver : Sort → Bool
has_receiver Static = false
has_receiver Dynamic = false
has_receiver _ = true

abbrev pub receiver_of : Sort → List Kind
receiver_of Static = []
receiver_of Dynamic = []
receiver_of _ = ReferenceKind ∷ []

-- the kinds of the operands, the deepest first
abbrev pub operands_of : Action → List Kind
operands_of (Calculate calculation) = calculation_operands calculation
operands_of (FloatOperation opcode operands result) = operands
operands_of ArrayLength = ReferenceKind ∷ []
operands_of (LoadElement element) = ReferenceKind ∷ IntKind ∷ []
operands_of (StoreElement element) = ReferenceKind ∷ IntKind ∷ kind_of_element element ∷ []
operands_of (GetField field) = ReferenceKind ∷ []
operands_of (PutField field) = ReferenceKind ∷ kind_of field.type ∷ []
operands_of (GetStatic field) = []
operands_of (PutStatic field) = kind_of field.type ∷ []
operands_of (Invoke sort method types) = receiver_of sort ++ map kind_of types.params
operands_of (New class) = []
operands_of (NewArray type dimensions) = replicate dimensions IntKind
operands_of _ = ReferenceKind ∷ []

-- the kind of the result, if there is one
abbrev pub result_of : Action → Option Kind
result_of (Calculate calculation) = Some (calculation_result calculation)
result_of (FloatOperation opcode operands result) = Some result
result_of ArrayLength = Some IntKind
result_of (LoadElement element) = Some (kind_of_element element)
result_of (GetField field) = Some (kind_of field.type)
result_of (GetStatic field) = Some (kind_of field.type)
result_of (Invoke sort method types) = option_map kind_of types.result
result_of (New class) = Some ReferenceKind
result_of (NewArray type dimensions) = Some ReferenceKind
result_of (CheckCast class) = Some ReferenceKind
result_of (InstanceOf class) = Some IntKind
result_of _ = None

-- the first operand is a target that must not be null
abbrev pub has_target : Action → Bool
has_target ArrayLength = true
has_target (LoadElement element) = true
has_target (StoreElement element) = true
has_target (GetField field) = true
has_target (PutField field) = true
has_target (Invoke sort method types) = has_receiver sort
has_target MonitorEnter = true
has_target MonitorExit = true
has_target _ = false
