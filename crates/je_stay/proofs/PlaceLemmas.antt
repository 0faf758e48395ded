-- What is known of the places of a method with marks, and which place is which.
use Rattle.std.proofs.Common.{◌≡◌, ℕ, zero, suc, ◌+◌, ◌-◌, ◌<◌, ◌≤◌, ◌⊎◌, inl, inr, List, [], ◌∷◌, length, Some, Bool, true, false, refl, sym, ap, subst, ◌∙◌, arith}
use Rattle.std.specs.Prelude.{IsTrue, nat_lt, if◌then◌else◌, slice_get}
use Rattle.std.proofs.lemmas.Bool.{lt-ltb, le-ltb}
use Rattle.je_machine.specs.Frame.{Frame}
use Rattle.je_shape.specs.Shape.{Known, Nothing}
use Rattle.je_shape.specs.Least.{Assignment}
use Rattle.je_fit.specs.Fits.{fits_known}
use Rattle.je_splice.specs.Marks.{Marks, first_of, arrive, stand, fall_to}
use Rattle.je_splice.proofs.MarksLemmas.{first_rises, stand_before}
use Rattle.je_stay.specs.Marked.{known_from, known_at}
use Rattle.je_stay.proofs.ReferenceLemmas.{less_or_not, nothing_fits}

pub chosen_first : (b : Bool) (k l : Known) → b ≡ true → (if b then k else l) ≡ k
chosen_first true k l e = refl
chosen_first false k l e = absurd cc

pub chosen_second : (b : Bool) (k l : Known) → b ≡ false → (if b then k else l) ≡ l
chosen_second true k l e = absurd cc
chosen_second false k l e = refl

-- which piece of an index stands at a place, or that its instruction does
pub data Part {X H : Type 0} (m : Marks X H) (at place : ℕ) : Type 0 where
  EntryPart : (k : ℕ) (piece : X) (is : slice_get (m.entries at) k ≡ Some piece) (there : place ≡ first_of m at + k) → Part m at place
  PassedPart : (k : ℕ) (piece : X) (is : slice_get (m.passed at) k ≡ Some piece) (there : place ≡ fall_to m at + k) → Part m at place
  MetPart : (k : ℕ) (piece : X) (is : slice_get (m.met at) k ≡ Some piece) (there : place ≡ arrive m at + k) → Part m at place
  LastPart : (there : place ≡ stand m at) → Part m at place

pub thing_at : {A : Type 0} (xs : List A) (at : ℕ) → at < length xs → (x : A) × (slice_get xs at ≡ Some x)
thing_at [] at h = absurd (omega (arith, h))
thing_at (x ∷ xs) zero h = (x, refl)
thing_at (x ∷ xs) (suc at) h = thing_at xs at (omega (arith, h))

module _ {X H : Type 0} (m : Marks X H) where
  -- ---- the parts of an index

  met_part : (at place : ℕ) → arrive m at ≤ place → place < first_of m (suc at) → (place < stand m at) ⊎ (stand m at ≤ place) → Part m at place
  met_part at place low high (inl less) =
      let found = thing_at (m.met at) (place - arrive m at) (omega (arith, low, less)) in
      MetPart (place - arrive m at) found.0 found.1 (omega (arith, low))
  met_part at place low high (inr le) = let last = stand_before m at in LastPart (omega (arith, le, high, last))

  passed_part : (at place : ℕ) → fall_to m at ≤ place → place < first_of m (suc at) → (place < arrive m at) ⊎ (arrive m at ≤ place) → Part m at place
  passed_part at place low high (inl less) =
      let found = thing_at (m.passed at) (place - fall_to m at) (omega (arith, low, less)) in
      PassedPart (place - fall_to m at) found.0 found.1 (omega (arith, low))
  passed_part at place low high (inr le) = met_part at place le high (less_or_not place (stand m at))

  entry_part : (at place : ℕ) → first_of m at ≤ place → place < first_of m (suc at) → (place < fall_to m at) ⊎ (fall_to m at ≤ place) → Part m at place
  entry_part at place low high (inl less) =
      let found = thing_at (m.entries at) (place - first_of m at) (omega (arith, low, less)) in
      EntryPart (place - first_of m at) found.0 found.1 (omega (arith, low))
  entry_part at place low high (inr le) = passed_part at place le high (less_or_not place (arrive m at))

  pub part_at : (at place : ℕ) → first_of m at ≤ place → place < first_of m (suc at) → Part m at place
  part_at at place low high = entry_part at place low high (less_or_not place (fall_to m at))

  -- ---- the index of a place

  index_of : (base count place : ℕ) → first_of m base ≤ place → place < first_of m (base + count)
      → (at : ℕ) × (at < base + count) × (first_of m at ≤ place) × (place < first_of m (suc at))
  index_of base zero place low high =
      let none : base + 0 ≡ base = omega arith in
      let same : first_of m (base + 0) ≡ first_of m base = ap (first_of m) none in
      absurd (omega (arith, low, high, same))
  index_of base (suc count) place low high =
      elim (less_or_not place (first_of m (suc base))) [
        | inl less ↦ (base, omega arith, low, less)
        | inr le ↦
            let next : suc base + count ≡ base + suc count = omega arith in
            let found = index_of (suc base) count place le (subst (λ (n : ℕ). place < first_of m n) (sym next) high) in
            (found.0, omega (arith, found.1), found.2, found.3)
      ]

  pub index_within : (count place : ℕ) → first_of m 0 ≤ place → place < first_of m count → (at : ℕ) × (at < count) × (first_of m at ≤ place) × (place < first_of m (suc at))
  index_within count place low high =
      let none : 0 + count ≡ count = omega arith in
      let found = index_of 0 count place low (subst (λ (n : ℕ). place < first_of m n) (sym none) high) in
      (found.0, omega (arith, found.1), found.2, found.3)

  -- ---- what is known of places

  module _ (x : Assignment) where
    known_there : (base count at place : ℕ) → at < count → first_of m (base + at) ≤ place → place < first_of m (suc (base + at)) → known_from m x base count place ≡ x (base + at)
    known_there base zero at place h low high = absurd (omega (arith, h))
    known_there base (suc count) zero place h low high =
        let none : base + 0 ≡ base = omega arith in
        let same : first_of m (suc (base + 0)) ≡ first_of m (suc base) = ap (λ (n : ℕ). first_of m (suc n)) none in
        chosen_first (nat_lt place (first_of m (suc base))) (x base) (known_from m x (suc base) count place) (lt-ltb place (first_of m (suc base)) (omega (arith, high, same)))
        ∙ ap x (sym none)
    known_there base (suc count) (suc at) place h low high =
        let next : suc base + at ≡ base + suc at = omega arith in
        let rise = first_rises m (suc base) (base + suc at) (omega arith) in
        chosen_second (nat_lt place (first_of m (suc base))) (x base) (known_from m x (suc base) count place) (le-ltb place (first_of m (suc base)) (omega (arith, low, rise)))
        ∙ known_there (suc base) count at place (omega (arith, h)) (subst (λ (n : ℕ). first_of m n ≤ place) (sym next) low) (subst (λ (n : ℕ). place < first_of m (suc n)) (sym next) high)
        ∙ ap x next

    -- behind the last of them nothing
    known_behind : (base count place : ℕ) → first_of m (base + count) ≤ place → known_from m x base count place ≡ Nothing
    known_behind base zero place h = refl
    known_behind base (suc count) place h =
        let next : suc base + count ≡ base + suc count = omega arith in
        let rise = first_rises m (suc base) (base + suc count) (omega arith) in
        chosen_second (nat_lt place (first_of m (suc base))) (x base) (known_from m x (suc base) count place) (le-ltb place (first_of m (suc base)) (omega (arith, h, rise)))
        ∙ known_behind (suc base) count place (subst (λ (n : ℕ). first_of m n ≤ place) (sym next) h)

    -- before the second index what is known of the first
    known_front : (count place : ℕ) → place < first_of m 1 → known_at m x (suc count) place ≡ x 0
    known_front count place h = chosen_first (nat_lt place (first_of m 1)) (x 0) (known_from m x 1 count place) (lt-ltb place (first_of m 1) h)

    pub front_fits : (count place : ℕ) (f : Frame) → place < first_of m 1 → IsTrue (fits_known (known_at m x count place) f) → IsTrue (fits_known (x 0) f)
    front_fits zero place f h fit = absurd (nothing_fits Nothing f refl fit)
    front_fits (suc count) place f h fit = subst (λ k. IsTrue (fits_known k f)) (known_front count place h) fit

    pub fits_front : (count place : ℕ) (f : Frame) → (count ≤ 0 → x 0 ≡ Nothing) → place < first_of m 1 → IsTrue (fits_known (x 0) f) → IsTrue (fits_known (known_at m x count place) f)
    fits_front zero place f none h fit = absurd (nothing_fits (x 0) f (none (omega arith)) fit)
    fits_front (suc count) place f none h fit = subst (λ k. IsTrue (fits_known k f)) (sym (known_front count place h)) fit

    pub known_is : (count at place : ℕ) → at < count → first_of m at ≤ place → place < first_of m (suc at) → known_at m x count place ≡ x at
    known_is count at place h low high =
        let none : 0 + at ≡ at = omega arith in
        known_there 0 count at place h (subst (λ (n : ℕ). first_of m n ≤ place) (sym none) low) (subst (λ (n : ℕ). place < first_of m (suc n)) (sym none) high)
        ∙ ap x none

    pub known_past : (count place : ℕ) → first_of m count ≤ place → known_at m x count place ≡ Nothing
    known_past count place h =
        let none : 0 + count ≡ count = omega arith in
        known_behind 0 count place (subst (λ (n : ℕ). first_of m n ≤ place) (sym none) h)
