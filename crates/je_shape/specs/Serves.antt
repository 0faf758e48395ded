-- Which shapes serve an instruction (JVMS 4.10.1.9).
use Rattle.std.specs.Prelude.{◌≡◌, ℕ, zero, suc, ◌-◌, ◌≤◌, List, [], ◌∷◌, map, reverse}
use Rattle.std.specs.Prelude.{Option, Some, None, slice_get}
use Rattle.std.specs.List.{AllByRecursion}
use Rattle.je_machine.specs.Value.{Kind, IntKind, LongKind, FloatKind, DoubleKind, ReferenceKind}
use Rattle.je_machine.specs.Value.{kind_of}
use Rattle.je_machine.specs.Condition.{Condition, Same, IsNull, condition_operands}
use Rattle.je_machine.specs.Action.{Action, PutField, Invoke, New, MonitorEnter, MonitorExit}
use Rattle.je_machine.specs.Action.{operands_of}
use Rattle.je_machine.specs.Operation.{Basic, Nop, Push, Drop, Copy, Swap, Act, Throw, Operation}
use Rattle.je_machine.specs.Operation.{Do, Load, Store, Increment, Branch, Goto, Switch, Return}
use Rattle.je_shape.specs.Slot.{Word, IntWord, FloatWord, LongWord, DoubleWord, UninitThis, Uninit}
use Rattle.je_shape.specs.Slot.{Slot, Top, Is, Reference}
use Rattle.je_shape.specs.Shape.{Shape, local_at}
use Rattle.je_shape.specs.Flow.{width, top_item, below_top, under_items, under_places, constructor}

-- ---- what is wanted of a slot

-- A value of a kind, which a reference is once a constructor was called on it; such a reference or
-- one that waits for its constructor; such a reference or `this`.
pub data Want : Type 0 where
  Wants : (kind : Kind) → Want
  WantsAny : Want
  WantsThis : Want

abbrev pub IsOfKind : Kind → Slot → Type 0
IsOfKind IntKind (Is IntWord) = Unit {0}
IsOfKind LongKind (Is LongWord) = Unit {0}
IsOfKind FloatKind (Is FloatWord) = Unit {0}
IsOfKind DoubleKind (Is DoubleWord) = Unit {0}
IsOfKind ReferenceKind (Reference names) = Unit {0}
IsOfKind _ _ = ⊥

abbrev pub IsAnyReference : Slot → Type 0
IsAnyReference (Is UninitThis) = Unit {0}
IsAnyReference (Is (Uninit new)) = Unit {0}
IsAnyReference (Reference names) = Unit {0}
IsAnyReference _ = ⊥

abbrev pub IsThisOrReference : Slot → Type 0
IsThisOrReference (Is UninitThis) = Unit {0}
IsThisOrReference (Reference names) = Unit {0}
IsThisOrReference _ = ⊥

abbrev pub Meets : Want → Slot → Type 0
Meets (Wants kind) s = IsOfKind kind s
Meets WantsAny s = IsAnyReference s
Meets WantsThis s = IsThisOrReference s

-- the items from the top, the top first
abbrev pub StackMeets : List Want → List Slot → Type 0
StackMeets [] stack = Unit {0}
StackMeets (want ∷ wants) [] = ⊥
StackMeets (want ∷ wants) (s ∷ stack) = Meets want s × StackMeets wants stack

-- ---- what instructions want

-- Loads and stores move references that wait for their constructor too.
abbrev pub moved : Kind → Want
moved ReferenceKind = WantsAny
moved kind = Wants kind

-- the deepest first, as the operands of a condition and of an action are
abbrev pub wants_of_condition : Condition → List Want
wants_of_condition (Same wanted) = WantsAny ∷ WantsAny ∷ []
wants_of_condition (IsNull wanted) = WantsAny ∷ []
wants_of_condition condition = map Wants (condition_operands condition)

abbrev pub wants_of : Action → List Want
wants_of (PutField field) = WantsThis ∷ Wants (kind_of field.type) ∷ []
wants_of MonitorEnter = WantsAny ∷ []
wants_of MonitorExit = WantsAny ∷ []
wants_of action = map Wants (operands_of action)

-- There are items in so many places from the top, and none stands in more than these. Top is no
-- such item.
abbrev pub IsItem : Slot → Type 0
IsItem Top = ⊥
IsItem s = Unit {0}

abbrev pub HasPlaces : ℕ → List Slot → Type 0
HasPlaces zero stack = Unit {0}
HasPlaces (suc places) [] = ⊥
HasPlaces (suc places) (s ∷ stack) =
    IsItem s × (width s ≤ suc places) × HasPlaces (suc places - width s) stack

-- ---- constructors

-- An `<init>` is called on `this`, or on what a `new` made that names the same class.
abbrev pub IsMadeAs : List Operation → List ℕ → Word → Type 0
IsMadeAs operations class UninitThis = Unit {0}
IsMadeAs operations class (Uninit new) = slice_get operations new ≡ Some (Do (Act (New class)))
IsMadeAs operations class _ = ⊥

abbrev pub IsTarget : List Operation → List ℕ → Slot → Type 0
IsTarget operations class (Is word) = IsMadeAs operations class word
IsTarget operations class _ = ⊥

-- what the `new` at this index makes is not on the stack
abbrev pub IsNotMade : ℕ → Slot → Type 0
IsNotMade at (Is word) = word ≡ Uninit at → ⊥
IsNotMade at _ = Unit {0}

abbrev pub ServesNew : ℕ → Action → List Slot → Type 0
ServesNew at (New class) stack = AllByRecursion (IsNotMade at) stack
ServesNew at _ stack = Unit {0}

abbrev pub wants_of_parameters : Action → List Want
wants_of_parameters (Invoke sort method types) = map (λ t. Wants (kind_of t)) types.params
wants_of_parameters _ = []

abbrev pub ServesAct : List Operation → ℕ → Action → Option (List ℕ × ℕ) → List Slot → Type 0
ServesAct operations at action None stack =
    StackMeets (reverse (wants_of action)) stack × ServesNew at action stack
ServesAct operations at action (Some call) stack =
    StackMeets (reverse (wants_of_parameters action)) stack
    × IsTarget operations call.0 (top_item (under_items call.1 stack))

-- ---- the whole

abbrev pub ServesBasic : List Operation → ℕ → Basic → List Slot → Type 0
ServesBasic operations at Nop stack = Unit {0}
ServesBasic operations at (Push value) stack = Unit {0}
ServesBasic operations at (Drop places) stack = HasPlaces places stack
ServesBasic operations at (Copy places deep) stack =
    HasPlaces places stack × HasPlaces deep (under_places places stack)
ServesBasic operations at Swap stack = HasPlaces 1 stack × HasPlaces 1 (below_top stack)
ServesBasic operations at (Act action) stack =
    ServesAct operations at action (constructor action) stack
ServesBasic operations at Throw stack = StackMeets (Wants ReferenceKind ∷ []) stack

-- A return is of the kind of the method's result, where that is given.
abbrev pub wants_of_return : Option Kind → List Want
wants_of_return None = []
wants_of_return (Some kind) = Wants kind ∷ []

-- The shape serves the operation at an index of these.
abbrev pub ServesOperation : List Operation → ℕ → Operation → Shape → Type 0
ServesOperation operations at (Do basic) s = ServesBasic operations at basic s.stack
ServesOperation operations at (Load kind slot) s = Meets (moved kind) (local_at s.locals slot)
ServesOperation operations at (Store kind slot) s = StackMeets (moved kind ∷ []) s.stack
ServesOperation operations at (Increment slot by) s = Meets (Wants IntKind) (local_at s.locals slot)
ServesOperation operations at (Branch condition target) s =
    StackMeets (reverse (wants_of_condition condition)) s.stack
ServesOperation operations at (Goto target) s = Unit {0}
ServesOperation operations at (Switch cases fallback) s = StackMeets (Wants IntKind ∷ []) s.stack
ServesOperation operations at (Return kind) s = StackMeets (wants_of_return kind) s.stack
