-- How a shape flows through an instruction (JVMS 4.10.1.9 and 6.5). All is total: what is not there
-- is Top, and whether the shape serves the instruction is not asked here (Serves).
use Rattle.std.specs.Prelude.{ℕ, zero, suc, ◌-◌, List, [], ◌∷◌, ◌++◌, length, map, Option, Some}
use Rattle.std.specs.Prelude.{None, option_map, Bool, true, false, nat_eq, if◌then◌else◌, codes}
use Rattle.je_base.specs.Ascii.{letter_L, left_bracket}
use Rattle.je_base.specs.Text.{is_same_text}
use Rattle.je_desc.specs.FieldType.{FieldType, Object, descriptor}
use Rattle.je_machine.specs.Content.{Content, Class, Str, Member, MethodHandle, MethodType}
use Rattle.je_machine.specs.Value.{Kind, IntKind, LongKind, FloatKind, DoubleKind, ReferenceKind}
use Rattle.je_machine.specs.Value.{kind_of, Value, Int, Long, Flt, Dbl, Null, Const}
use Rattle.je_machine.specs.Condition.{condition_operands}
use Rattle.je_machine.specs.Action.{Action, LoadElement, GetField, GetStatic, Invoke, New, NewArray}
use Rattle.je_machine.specs.Action.{CheckCast, Special, kind_of_element, operands_of, result_of}
use Rattle.je_machine.specs.Operation.{Basic, Nop, Push, Drop, Copy, Swap, Act, Throw, Operation}
use Rattle.je_machine.specs.Operation.{Do, Load, Store, Increment, Branch, Goto, Switch, Return}
use Rattle.je_shape.specs.Slot.{Word, IntWord, FloatWord, LongWord, DoubleWord, UninitThis, Uninit}
use Rattle.je_shape.specs.Slot.{Slot, Top, Is, Reference, is_same_word}
use Rattle.je_shape.specs.Shape.{Shape, local_at}

abbrev pub shape_of : List Slot → List Slot → Shape
shape_of stack locals = record { stack = stack; locals = locals }

-- ---- the slots of types and constants

-- of a kind, a reference with these names
abbrev pub slot_of_kind : Kind → List (List ℕ) → Slot
slot_of_kind IntKind names = Is IntWord
slot_of_kind LongKind names = Is LongWord
slot_of_kind FloatKind names = Is FloatWord
slot_of_kind DoubleKind names = Is DoubleWord
slot_of_kind ReferenceKind names = Reference names

-- the class that a type names, an array by its descriptor (JVMS 4.4.1)
abbrev pub class_of_type : FieldType → List ℕ
class_of_type (Object name) = name
class_of_type t = descriptor t

abbrev pub slot_of_type : FieldType → Slot
slot_of_type t = slot_of_kind (kind_of t) (class_of_type t ∷ [])

-- the class of what ldc loads as a reference (JVMS 6.5, ldc)
abbrev pub class_of_content : Content → List ℕ
class_of_content (Class name) = codes "java/lang/Class"
class_of_content (Str text) = codes "java/lang/String"
class_of_content (MethodHandle kind tag class name descriptor) =
    codes "java/lang/invoke/MethodHandle"
class_of_content (MethodType descriptor) = codes "java/lang/invoke/MethodType"
class_of_content _ = codes "java/lang/Object"

-- of what a constant instruction pushes
abbrev pub slot_of_value : Value → Slot
slot_of_value (Int n) = Is IntWord
slot_of_value (Long n) = Is LongWord
slot_of_value (Flt bits) = Is FloatWord
slot_of_value (Dbl bits) = Is DoubleWord
slot_of_value Null = Reference []
slot_of_value (Const content) = Reference (class_of_content content ∷ [])
slot_of_value _ = Reference (codes "java/lang/Object" ∷ [])

-- ---- the names of components

abbrev pub but_last : List ℕ → List ℕ
but_last [] = []
but_last (only ∷ []) = []
but_last (first ∷ second ∷ rest) = first ∷ but_last (second ∷ rest)

-- what stands behind the first bracket: an array as it is, a class without its L and semicolon
abbrev pub component_of : List ℕ → List ℕ
component_of [] = codes "java/lang/Object"
component_of (first ∷ rest) =
    if nat_eq first left_bracket then first ∷ rest
    else
    if nat_eq first letter_L then but_last rest else codes "java/lang/Object"

-- The component of an array of references by its name, and java/lang/Object of every other name.
abbrev pub component_name : List ℕ → List ℕ
component_name [] = codes "java/lang/Object"
component_name (first ∷ rest) =
    if nat_eq first left_bracket then component_of rest else codes "java/lang/Object"

abbrev pub names_of : Slot → List (List ℕ)
names_of (Reference names) = names
names_of _ = []

-- ---- the stack

abbrev pub top_item : List Slot → Slot
top_item [] = Top
top_item (s ∷ stack) = s

abbrev pub below_top : List Slot → List Slot
below_top [] = []
below_top (s ∷ stack) = stack

-- what is under so many items
abbrev pub under_items : ℕ → List Slot → List Slot
under_items zero stack = stack
under_items (suc count) stack = under_items count (below_top stack)

abbrev pub width_of_word : Word → ℕ
width_of_word LongWord = 2
width_of_word DoubleWord = 2
width_of_word _ = 1

-- the places that an item takes (JVMS 2.6.2)
abbrev pub width : Slot → ℕ
width (Is word) = width_of_word word
width _ = 1

-- the items in so many places from the top, and what is under them
abbrev pub top_places : ℕ → List Slot → List Slot
top_places zero stack = []
top_places (suc places) [] = []
top_places (suc places) (s ∷ stack) = s ∷ top_places (suc places - width s) stack

abbrev pub under_places : ℕ → List Slot → List Slot
under_places zero stack = stack
under_places (suc places) [] = []
under_places (suc places) (s ∷ stack) = under_places (suc places - width s) stack

abbrev pub copied : ℕ → ℕ → List Slot → List Slot
copied places deep stack =
    let first = top_places places stack in
    let rest = under_places places stack in
    first ++ (top_places deep rest ++ (first ++ under_places deep rest))

abbrev pub pushed : Option Slot → List Slot → List Slot
pushed None stack = stack
pushed (Some s) stack = s ∷ stack

-- ---- local variables

-- one written, and Top up to it where there was none
abbrev pub with_slot : List Slot → ℕ → Slot → List Slot
with_slot [] zero s = s ∷ []
with_slot [] (suc slot) s = Top ∷ with_slot [] slot s
with_slot (old ∷ locals) zero s = s ∷ locals
with_slot (old ∷ locals) (suc slot) s = old ∷ with_slot locals slot s

-- what is left of a local variable whose second place is written: nothing of a long or double
abbrev pub cut_word : Word → Slot
cut_word LongWord = Top
cut_word DoubleWord = Top
cut_word word = Is word

abbrev pub cut : Slot → Slot
cut (Is word) = cut_word word
cut s = s

-- the local variable before a slot that is written
abbrev pub cut_before : ℕ → List Slot → List Slot
cut_before zero locals = locals
cut_before (suc slot) locals = with_slot locals slot (cut (local_at locals slot))

-- the second place of a long or double that was written
abbrev pub with_second_word : Word → ℕ → List Slot → List Slot
with_second_word LongWord slot locals = with_slot locals (suc slot) Top
with_second_word DoubleWord slot locals = with_slot locals (suc slot) Top
with_second_word word slot locals = locals

abbrev pub with_second : Slot → ℕ → List Slot → List Slot
with_second (Is word) slot locals = with_second_word word slot locals
with_second s slot locals = locals

-- a slot written (JVMS 4.10.1.7)
abbrev pub stored : ℕ → Slot → List Slot → List Slot
stored slot s locals = with_second s slot (with_slot (cut_before slot locals) slot s)

-- ---- objects that are made (JVMS 4.10.1.9, new and invokespecial)

-- A local variable that holds what the same `new` made before is Top from then on.
abbrev pub forgot : ℕ → Slot → Slot
forgot at (Is word) = if is_same_word (Uninit at) word then Top else Is word
forgot at s = s

-- each copy of what a constructor was called on
abbrev pub made : Word → List ℕ → Slot → Slot
made word class (Is other) =
    if is_same_word word other then Reference (class ∷ []) else Is other
made word class s = s

-- `this` is of the method's own class, and what a `new` made of the class that is named.
abbrev pub class_made : List ℕ → List ℕ → Word → List ℕ
class_made own named UninitThis = own
class_made own named word = named

abbrev pub constructed : List ℕ → List ℕ → Slot → Shape → Shape
constructed own named (Is word) s =
    let class = class_made own named word in
    shape_of (map (made word class) s.stack) (map (made word class) s.locals)
constructed own named target s = s

-- a call of a constructor: the class that it names, and how many parameters there are
abbrev pub constructor_if : Bool → List ℕ → ℕ → Option (List ℕ × ℕ)
constructor_if true class count = Some (class, count)
constructor_if false class count = None

abbrev pub constructor_of : Option FieldType → List ℕ → List ℕ → ℕ → Option (List ℕ × ℕ)
constructor_of None name class count =
    constructor_if (is_same_text name (codes "<init>")) class count
constructor_of (Some result) name class count = None

abbrev pub constructor : Action → Option (List ℕ × ℕ)
constructor (Invoke Special (Member tag class name descriptor) types) =
    constructor_of types.result name class (length types.params)
constructor _ = None

-- ---- actions

-- what is pushed for a result
abbrev pub given : ℕ → Action → List Slot → Option Slot
given at (LoadElement e) stack =
    Some (slot_of_kind (kind_of_element e)
    (map component_name (names_of (top_item (below_top stack)))))
given at (GetField f) stack = Some (slot_of_type f.type)
given at (GetStatic f) stack = Some (slot_of_type f.type)
given at (Invoke sort method types) stack = option_map slot_of_type types.result
given at (New class) stack = Some (Is (Uninit at))
given at (NewArray type dimensions) stack = Some (slot_of_type type)
given at (CheckCast class) stack = Some (Reference (class ∷ []))
given at action stack = option_map (λ kind. slot_of_kind kind []) (result_of action)

-- the local variables behind it
abbrev pub left_by : ℕ → Action → List Slot → List Slot
left_by at (New class) locals = map (forgot at) locals
left_by at action locals = locals

abbrev pub acted : ℕ → Action → Shape → Shape
acted at action s =
    shape_of (pushed (given at action s.stack) (under_items (length (operands_of action)) s.stack))
    (left_by at action s.locals)

abbrev pub act_flow : List ℕ → ℕ → Action → Option (List ℕ × ℕ) → Shape → Shape
act_flow own at action None s = acted at action s
act_flow own at action (Some call) s =
    let target = under_items call.1 s.stack in
    constructed own call.0 (top_item target) (shape_of (below_top target) s.locals)

-- ---- the whole

abbrev pub flow_basic : List ℕ → ℕ → Basic → Shape → Shape
flow_basic own at Nop s = s
flow_basic own at (Push value) s = shape_of (slot_of_value value ∷ s.stack) s.locals
flow_basic own at (Drop places) s = shape_of (under_places places s.stack) s.locals
flow_basic own at (Copy places deep) s = shape_of (copied places deep s.stack) s.locals
flow_basic own at Swap s =
    shape_of
    (top_item (below_top s.stack) ∷ top_item s.stack ∷ below_top (below_top s.stack))
    s.locals
flow_basic own at (Act action) s = act_flow own at action (constructor action) s
flow_basic own at Throw s = shape_of (below_top s.stack) s.locals

-- What a shape becomes by the instruction at an index, in a method of a class.
abbrev pub flow : List ℕ → ℕ → Operation → Shape → Shape
flow own at (Do basic) s = flow_basic own at basic s
flow own at (Load kind slot) s = shape_of (local_at s.locals slot ∷ s.stack) s.locals
flow own at (Store kind slot) s =
    shape_of (below_top s.stack) (stored slot (top_item s.stack) s.locals)
flow own at (Increment slot by) s = s
flow own at (Branch condition target) s =
    shape_of (under_items (length (condition_operands condition)) s.stack) s.locals
flow own at (Goto target) s = s
flow own at (Switch cases fallback) s = shape_of (below_top s.stack) s.locals
flow own at (Return None) s = s
flow own at (Return (Some kind)) s = shape_of (below_top s.stack) s.locals
