-- Slots that have another kind than the one in which they are used.
use Rattle.std.specs.Prelude.{◌≡◌, ℕ, ◌<◌, ◌⊎◌, List, Option, slice_get, Contains}
use Rattle.je_shape.specs.Slot.{Slot}
use Rattle.je_shape.specs.Shape.{Shape, local_at, Known, Has}
use Rattle.je_shape.specs.Least.{ItemAgrees}
use Rattle.je_least.specs.Answer.{known_of}

-- The slot is of another kind: a primitive type, Top, `this` and what each `new` makes before its
-- constructor, and references with null are each one. Of an index without a shape nothing is lost.
abbrev pub Differs : Known → ℕ → Slot → Type 0
Differs (Has s) slot kind = ItemAgrees (local_at s.locals slot) kind → ⊥
Differs _ slot kind = ⊥

-- A slot that is used as of a kind is lost at one of these indexes.
pub record IsLost (list : List (Option Shape)) (used : List (ℕ × Slot)) (indexes : List ℕ)
    (slot at : ℕ) : Type 0 where
  pub kind : Slot
  pub uses : Contains used (slot, kind)
  pub asked : Contains indexes at
  pub differs : Differs (known_of (slice_get list at)) slot kind

-- by slot, and then by index
abbrev pub IsBefore : ℕ → ℕ → ℕ → ℕ → Type 0
IsBefore slot at other_slot other_at = (slot < other_slot) ⊎ ((slot ≡ other_slot) × (at < other_at))

pub record IsFirstLost (list : List (Option Shape)) (used : List (ℕ × Slot)) (indexes : List ℕ)
    (slot at : ℕ) : Type 0 where
  pub lost : IsLost list used indexes slot at
  pub first :
      (before_slot before_at : ℕ) → IsBefore before_slot before_at slot at
      → IsLost list used indexes before_slot before_at → ⊥
