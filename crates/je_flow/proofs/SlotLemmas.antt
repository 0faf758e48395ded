-- Slots of the program in lists, as the definitions see them.
use Rattle.std.proofs.Common.{◌≡◌, ℕ, zero, suc, ◌<◌, ◌≤◌, List, [], ◌∷◌, ◌++◌, length, map, slice_set}
use Rattle.std.proofs.Common.{slice_get, refl, ap, ◌∙◌, arith}
use Rattle.std.proofs.lemmas.List.{map-append, length-map}
use Rattle.je_shape.specs.declared.slot.Slot.{Slot}
use Rattle.je_shape.specs.declared.slot.Slot.TheVariants as slots
use Rattle.je_shape.specs.Slot as known
use Rattle.je_shape.specs.Shape.{local_at}
use Rattle.je_shape.specs.Flow.{with_slot, width, with_second}
use Rattle.je_shape.specs.Views.{slot_seen}
use Rattle.je_flow.specs.Seen.{seen_or_top}

pub ruleset parts_are = (map-append)

all : List Slot → List known.Slot
all ss = map slot_seen ss

-- a local variable, by its index
pub local_is : (ss : List Slot) (i : ℕ) → seen_or_top (slice_get ss i) ≡ local_at (map slot_seen ss) i
local_is [] i = refl
local_is (s ∷ ss) zero = refl
local_is (s ∷ ss) (suc i) = local_is ss i

-- one that is there is written
pub slot_written : (ss : List Slot) (i : ℕ) (s : Slot) → i < length ss
    → map slot_seen (slice_set ss i s) ≡ with_slot (map slot_seen ss) i (slot_seen s)
slot_written [] i s h = absurd (omega (arith, h))
slot_written (old ∷ ss) zero s h = refl
slot_written (old ∷ ss) (suc i) s h =
    ap (λ (l : List known.Slot). slot_seen old ∷ l) (slot_written ss i s (omega (arith, h)))

-- one more Top, up to the one that is written
one_top : (ss : List known.Slot) (i : ℕ) (s : known.Slot) → length ss ≤ i
    → with_slot (ss ++ known.Top ∷ []) i s ≡ with_slot ss i s
one_top [] zero s h = refl
one_top [] (suc i) s h = refl
one_top (old ∷ ss) zero s h = absurd (omega (arith, h))
one_top (old ∷ ss) (suc i) s h =
    ap (λ (l : List known.Slot). old ∷ l) (one_top ss i s (omega (arith, h)))

-- one more Top keeps what a write comes to
pub grown : (locals all next : List Slot) (i : ℕ) (top : Slot)
    → top ≡ slots.Top → length all ≤ i → next ≡ all ++ top ∷ []
    → ((s : known.Slot) → with_slot (map slot_seen all) i s ≡ with_slot (map slot_seen locals) i s)
    → (s : known.Slot) → with_slot (map slot_seen next) i s ≡ with_slot (map slot_seen locals) i s
grown locals all next i top e h put before s =
    let seen : map slot_seen next ≡ map slot_seen all ++ known.Top ∷ [] =
    ap (map slot_seen) put ∙ map-append slot_seen all (top ∷ [])
    ∙ ap (λ (t : Slot). map slot_seen all ++ slot_seen t ∷ []) e in
    ap (λ (l : List known.Slot). with_slot l i s) seen
    ∙ one_top (map slot_seen all) i s (rw (length-map all slot_seen) h)
    ∙ before s

-- the second place of what takes so many
pub one_place : (s : known.Slot) (i : ℕ) (ss : List known.Slot) → width s ≡ 1 → with_second s i ss ≡ ss
one_place known.Top i ss e = refl
one_place (known.Is known.IntWord) i ss e = refl
one_place (known.Is known.FloatWord) i ss e = refl
one_place (known.Is known.LongWord) i ss e = absurd (omega (arith, e))
one_place (known.Is known.DoubleWord) i ss e = absurd (omega (arith, e))
one_place (known.Is known.UninitThis) i ss e = refl
one_place (known.Is (known.Uninit new)) i ss e = refl
one_place (known.Reference names) i ss e = refl

pub two_places : (s : known.Slot) (i : ℕ) (ss : List known.Slot) → (width s ≡ 1 → ⊥)
    → with_second s i ss ≡ with_slot ss (suc i) known.Top
two_places known.Top i ss e = absurd (e refl)
two_places (known.Is known.IntWord) i ss e = absurd (e refl)
two_places (known.Is known.FloatWord) i ss e = absurd (e refl)
two_places (known.Is known.LongWord) i ss e = refl
two_places (known.Is known.DoubleWord) i ss e = refl
two_places (known.Is known.UninitThis) i ss e = absurd (e refl)
two_places (known.Is (known.Uninit new)) i ss e = absurd (e refl)
two_places (known.Reference names) i ss e = absurd (e refl)

pub ruleset second_is = (one_place, two_places)
