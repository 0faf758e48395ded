-- A pool comes of reading its bytes, and its first fault comes where there is one.
use Rattle.std.proofs.Common.{◌≡◌, ℕ, suc, ◌+◌, ◌-◌, Bool, true, false, List, [], ◌∷◌, ◌++◌, length, drop, Ok, Err, refl, sym, ap, subst, ◌∙◌, append_assoc, length-append, arith, inl, inr, ◌⊎◌}
use Rattle.std.specs.List.{AllByRecursion}
use Rattle.std.proofs.lemmas.List.{append-nil}
use Rattle.std.proofs.lemmas.List.Concat.{flat_map-cons}
use Rattle.je_base.specs.Bytes.{u2}
use Rattle.je_consts.specs.declared.fault.ConstFault.{ConstFault}
use Rattle.je_consts.specs.declared.fault.ConstFault.TheVariants.{BadConst}
use Rattle.je_consts.specs.declared.place.Place.{Place}
use Rattle.je_consts.specs.declared.place.Place.TheVariants.{Entry, Second}
use Rattle.je_consts.specs.Pool.{is_wide, Fits, OfEntry, IsSpaced, IsLeastMisfit}
use Rattle.je_consts.specs.Layout.{const_layout, place_layout, entries_layout}
use Rattle.je_consts.specs.Faults.{Reaches, FirstFault, count_cut, count_zero, no_entry, no_second, misfit}
use Rattle.je_consts.specs.Reading.{◌>>=◌}
use Rattle.je_consts.proofs.Loop.{with_front}
use Rattle.je_consts.proofs.FieldLemmas.{behind}
use Rattle.je_consts.proofs.OneEntry.{comes_again}
use Rattle.je_consts.proofs.PlaceLemmas.{Whole, Come, Behind, PoolComes, behind_place}

-- ---- past the places that were read

with_front-nil : (r : Whole) → r ≡ with_front [] r
with_front-nil (Ok x) = refl
with_front-nil (Err d) = refl

with_front-more : (p : Place) (ps : List Place) (r : Whole) → (with_front ps r >>= behind_place p) ≡ with_front (p ∷ ps) r
with_front-more p ps (Ok x) = refl
with_front-more p ps (Err d) = refl

module _ (bytes rest : List ℕ) (n last here : ℕ) (after : Bool) (r : Whole) (tail : Come bytes after n last here r) where
  past : (wide : Bool) (front : List Place) (k index at : ℕ) → AllByRecursion (OfEntry Fits) front → IsSpaced wide front after → drop at bytes ≡ entries_layout front ++ rest
      → k ≡ length front + n → last ≡ index + length front → here ≡ at + length (entries_layout front) → Come bytes wide k index at (with_front front r)
  past wide [] k index at fits spaced e ek el eh =
      let k_is : k ≡ n = omega arith in
      let index_is : index ≡ last = omega arith in
      let at_is : at ≡ here = omega arith in
      rw (k_is, index_is, at_is, spaced, ← with_front-nil r) tail
  past true (Entry c ∷ front) k index at fits spaced e ek el eh = let no_entry = spaced.0 in absurd cc
  past false (Second ∷ front) k index at fits spaced e ek el eh = let no_second = spaced.0 in absurd cc
  past true (Second ∷ front) k index at fits spaced e ek el eh =
      let same : entries_layout (Second ∷ front) ≡ entries_layout front = flat_map-cons place_layout Second front in
      let k_is : k ≡ suc (length front + n) = omega arith in
      let more = past false front (length front + n) (index + 1) at fits.1 spaced.1 (e ∙ ap (λ (t : List ℕ). t ++ rest) same) refl (omega arith) (omega (arith, ap length same)) in
      rw k_is (with_front front r, more, with_front-more Second front r)
  past false (Entry c ∷ front) k index at fits spaced e ek el eh =
      let whole : entries_layout (Entry c ∷ front) ≡ const_layout c ++ entries_layout front = flat_map-cons place_layout (Entry c) front in
      let e' : drop at bytes ≡ const_layout c ++ (entries_layout front ++ rest) = e ∙ ap (λ (t : List ℕ). t ++ rest) whole ∙ append_assoc (const_layout c) (entries_layout front) rest in
      let mid = at + length (const_layout c) in
      let k_is : k ≡ suc (length front + n) = omega arith in
      let next = behind bytes at (const_layout c) (entries_layout front ++ rest) (length (const_layout c)) e' refl in
      let end : here ≡ mid + length (entries_layout front) = omega (arith, ap length whole, length-append (const_layout c) (entries_layout front)) in
      let more = past (is_wide c) front (length front + n) (index + 1) mid fits.1 spaced.1 next refl (omega arith) end in
      rw k_is (inr ((c, mid), with_front front r, comes_again index bytes at c (entries_layout front ++ rest) fits.0 e', more, with_front-more (Entry c) front r))

-- what comes behind the places comes behind the count and them
past_all : (bytes : List ℕ) (at count here : ℕ) (places : List Place) (wide : Bool) → Reaches bytes at count places wide here → (n : ℕ) (r : Whole) → length places + 1 + n ≡ count → Come bytes wide n (length places + 1) here r → PoolComes bytes at (with_front places r)
past_all bytes at count here places wide reached n r sum tail =
    let next = behind bytes at (u2 count) (entries_layout places ++ drop here bytes) 2 reached.parts refl in
    let all = past bytes (drop here bytes) n (length places + 1) here wide r tail false places (length places + n) 1 (at + 2) reached.fits reached.spaced next refl (omega arith) (omega (arith, reached.here_is)) in
    let count_is : count ≡ suc (length places + n) = omega arith in
    let there : drop at bytes ≡ u2 count ++ drop (at + 2) bytes = reached.parts ∙ ap (λ (t : List ℕ). u2 count ++ t) (sym next) in
    inr (count, at + 2, (there, (reached.count_fits, tt), refl), subst (λ (k : ℕ). Behind bytes k (at + 2) (with_front places r)) (sym count_is) all)

pub all_come : (bytes : List ℕ) (at count here : ℕ) (places : List Place) → Reaches bytes at count places false here → length places + 1 ≡ count → PoolComes bytes at (Ok (places, here))
all_come bytes at count here places reached sum =
    subst (λ (ps : List Place). PoolComes bytes at (Ok (ps, here))) (append-nil places) (past_all bytes at count here places false reached 0 (Ok ([], here)) (omega arith) refl)

-- what comes where this is the first fault
abbrev pub ComesAs : List ℕ → ℕ → ConstFault → Type 0
ComesAs bytes at d = PoolComes bytes at (Err d) ⊎ ((x : List Place × ℕ) × (index : ℕ) × PoolComes bytes at (Ok x) × IsLeastMisfit x.0 index × (d ≡ BadConst index))

pub comes_as : (bytes : List ℕ) (at : ℕ) (d : ConstFault) → FirstFault bytes at d → ComesAs bytes at d
comes_as bytes at _ (count_cut lt) = inl (inl (lt, refl))
comes_as bytes at _ (count_zero there) = inl (inr (0, at + 2, (there, (omega arith, tt), refl), refl))
comes_as bytes at _ (no_entry count here places fault reached lt none) =
    let d = fault (length places + 1) in
    let n = count - (length places + 2) in
    inl (past_all bytes at count here places false reached (suc n) (Err d) (omega arith) (inl (d, (fault, none, refl), refl)))
comes_as bytes at _ (no_second count here places reached sum) =
    let back : length places ≡ length places + 1 - 1 = omega arith in
    inl (past_all bytes at count here places true reached 0 (Err (BadConst (length places))) (omega arith) (ap (λ (k : ℕ). Err (BadConst k)) back))
comes_as bytes at _ (misfit count here places index reached all least) = inr ((places, here), index, all_come bytes at count here places reached all, least, refl)
