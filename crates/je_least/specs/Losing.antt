-- Serves private functions: the first pair of a slot and an index so far.
use Rattle.std.specs.Prelude.{◌≡◌, ℕ, ◌⊎◌, List, [], ◌∷◌, Option, Some, None, slice_get}
use Rattle.je_shape.specs.Slot.{Slot}
use Rattle.je_shape.specs.Shape.{Shape}
use Rattle.je_least.specs.Answer.{known_of}
use Rattle.je_least.specs.Lost.{Differs, IsBefore}

abbrev pub IsOneOf : {A : Type 0} → List A → A → Type 0
IsOneOf [] x = ⊥
IsOneOf (first ∷ rest) x = (first ≡ x) ⊎ IsOneOf rest x

-- there is a pair, and this one is not before it
abbrev pub IsNotBefore : Option (ℕ × ℕ) → ℕ → ℕ → Type 0
IsNotBefore None slot at = ⊥
IsNotBefore (Some p) slot at = IsBefore slot at p.0 p.1 → ⊥

-- one of these indexes, at which the slot is of another kind
pub record IsLostAt (list : List (Option Shape)) (slot : ℕ) (kind : Slot) (indexes : List ℕ)
    (at : ℕ) : Type 0 where
  pub asked : IsOneOf indexes at
  pub differs : Differs (known_of (slice_get list at)) slot kind

-- the first pair by one slot more
pub record Improves (list : List (Option Shape)) (slot : ℕ) (kind : Slot) (indexes : List ℕ)
    (old new : Option (ℕ × ℕ)) : Type 0 where
  pub from :
      (new ≡ old) ⊎ ((at : ℕ) × (new ≡ Some (slot, at)) × IsLostAt list slot kind indexes at)
  pub stays :
      (other_slot other_at : ℕ) → IsNotBefore old other_slot other_at
      → IsNotBefore new other_slot other_at
  pub each : (at : ℕ) → IsLostAt list slot kind indexes at → IsNotBefore new slot at

pub record IsLostOf (list : List (Option Shape)) (used : List (ℕ × Slot)) (indexes : List ℕ)
    (slot at : ℕ) : Type 0 where
  pub kind : Slot
  pub uses : IsOneOf used (slot, kind)
  pub lost : IsLostAt list slot kind indexes at

-- the first pair by so many slots
pub record IsFirstOf (list : List (Option Shape)) (used : List (ℕ × Slot)) (indexes : List ℕ)
    (first : Option (ℕ × ℕ)) : Type 0 where
  pub from : (p : ℕ × ℕ) → first ≡ Some p → IsLostOf list used indexes p.0 p.1
  pub each : (slot at : ℕ) → IsLostOf list used indexes slot at → IsNotBefore first slot at
