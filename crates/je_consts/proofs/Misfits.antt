-- What holds of each entry, by index and by place.
use Rattle.std.proofs.Common.{◌≡◌, ℕ, suc, ◌+◌, ◌<◌, List, [], ◌∷◌, length, Some, IsSomeAnd, IfSome, add-one, arith, inl, inr}
use Rattle.std.specs.Prelude.{slice_get, option_and_then}
use Rattle.std.specs.List.{AllByRecursion}
use Rattle.std.proofs.lemmas.Bool.{cases_lt}
use Rattle.je_consts.specs.declared.constant.Const.{Const}
use Rattle.je_consts.specs.declared.place.Place.{Place}
use Rattle.je_consts.specs.declared.place.Place.TheVariants.{Entry, Second}
use Rattle.je_consts.specs.Pool.{entry_of, const_at, OfEntry}

module _ (P : Const → Type 0) (places : List Place) (i : ℕ) where
  holds_of : (p : Place) → OfEntry P p → IfSome (entry_of p) P
  holds_of (Entry c) h = h
  holds_of Second h = tt

  fails_of : (p : Place) → (OfEntry P p → ⊥) → IsSomeAnd (entry_of p) (λ c. P c → ⊥)
  fails_of (Entry c) h = h
  fails_of Second h = absurd (h tt)

  pub holds_at : (p : Place) → slice_get places i ≡ Some p → OfEntry P p → IfSome (const_at places (i + 1)) P
  holds_at p is h = rw (add-one, is) (holds_of p h)

  pub fails_at : (p : Place) → slice_get places i ≡ Some p → (OfEntry P p → ⊥) → IsSomeAnd (const_at places (i + 1)) (λ c. P c → ⊥)
  fails_at p is h = rw (add-one, is) (fails_of p h)

-- so many indexes, and the next one
pub below_next : (P : Const → Type 0) (places : List Place) (n : ℕ) → ((i : ℕ) → i < n → IfSome (const_at places i) P) → IfSome (const_at places n) P → (i : ℕ) → i < n + 1 → IfSome (const_at places i) P
below_next P places n below here i lt =
    elim (cases_lt i n) [
      | inl less ↦ below i less
      | inr past ↦ let e : n ≡ i = omega arith in rw (← e) here
    ]

from_indexes : (P : Const → Type 0) (places : List Place) → ((i : ℕ) → i < length places → IfSome (option_and_then entry_of (slice_get places i)) P) → AllByRecursion (OfEntry P) places
from_indexes P [] h = tt
from_indexes P (Entry c ∷ places) h = (h 0 (omega arith), from_indexes P places (λ i lt. h (suc i) (omega arith)))
from_indexes P (Second ∷ places) h = (tt, from_indexes P places (λ i lt. h (suc i) (omega arith)))

pub all_by_indexes : (P : Const → Type 0) (places : List Place) → ((i : ℕ) → i < length places + 1 → IfSome (const_at places i) P) → AllByRecursion (OfEntry P) places
all_by_indexes P places h = from_indexes P places (λ i lt. h (suc i) (omega arith))
