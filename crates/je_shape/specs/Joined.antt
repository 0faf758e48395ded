-- What two have in common: the least that both are below, where there is one.
use Rattle.std.specs.Prelude.{ℕ, ◌⊎◌, ◌↔◌, List, Option, Some, None}
use Rattle.je_shape.specs.Slot.{Slot, HasName, IsBelow, IsItemBelow}
use Rattle.je_shape.specs.Shape.{Shape, StackBelow, LocalsBelow, ShapeBelow, Known, KnownBelow}

-- both are below the third, and it is below each that both are below
pub record IsJoin (A : Type 0) (Below : A → A → Type 0) (a b joined : A) : Type 0 where
  pub left : Below a joined
  pub right : Below b joined
  pub least : (above : A) → Below a above → Below b above → Below joined above

-- the same, or none where none is above both
abbrev pub IsJoinOrNone : (A : Type 0) → (A → A → Type 0) → A → A → Option A → Type 0
IsJoinOrNone A Below a b (Some joined) = IsJoin A Below a b joined
IsJoinOrNone A Below a b None = (above : A) → Below a above → Below b above → ⊥

-- the names of both and no others
abbrev pub IsUnion : List (List ℕ) → List (List ℕ) → List (List ℕ) → Type 0
IsUnion a b joined = (name : List ℕ) → HasName joined name ↔ (HasName a name ⊎ HasName b name)

-- of two local variables
abbrev pub IsSlotJoin : Slot → Slot → Slot → Type 0
IsSlotJoin a b joined = IsJoin Slot IsBelow a b joined

-- of two items of the stack
abbrev pub IsItemJoin : Slot → Slot → Option Slot → Type 0
IsItemJoin a b joined = IsJoinOrNone Slot IsItemBelow a b joined

abbrev pub IsLocalsJoin : List Slot → List Slot → List Slot → Type 0
IsLocalsJoin a b joined = IsJoin (List Slot) LocalsBelow a b joined

abbrev pub IsStackJoin : List Slot → List Slot → Option (List Slot) → Type 0
IsStackJoin a b joined = IsJoinOrNone (List Slot) StackBelow a b joined

abbrev pub IsShapeJoin : Shape → Shape → Option Shape → Type 0
IsShapeJoin a b joined = IsJoinOrNone Shape ShapeBelow a b joined

-- of what is known of an index, where broken is above all
abbrev pub IsKnownJoin : Known → Known → Known → Type 0
IsKnownJoin a b joined = IsJoin Known KnownBelow a b joined
