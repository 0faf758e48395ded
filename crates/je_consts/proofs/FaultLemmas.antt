-- Where the places of a pool come, their bytes stand there; where a fault comes, it is the first one.
use Rattle.std.proofs.Common.{◌≡◌, ℕ, zero, suc, ◌+◌, ◌-◌, Bool, true, false, List, [], ◌∷◌, ◌++◌, length, drop, Ok, Err, refl, sym, ap, subst, ◌∙◌, append_assoc, length-append, arith, inl, inr}
use Rattle.std.proofs.lemmas.Grind.{flat_map-append}
use Rattle.std.proofs.lemmas.List.{append-nil}
use Rattle.je_base.specs.Bytes.{u2}
use Rattle.je_base.specs.Parts.{Follows}
use Rattle.je_consts.specs.declared.fault.ConstFault.{ConstFault}
use Rattle.je_consts.specs.declared.fault.ConstFault.TheVariants.{BadConst}
use Rattle.je_consts.specs.declared.place.Place.{Place}
use Rattle.je_consts.specs.declared.place.Place.TheVariants.{Entry, Second}
use Rattle.je_consts.specs.EntryParts.{entry_format}
use Rattle.je_consts.specs.Pool.{is_wide, Fits, OfEntry, IsSpaced}
use Rattle.je_consts.specs.Layout.{place_layout, entries_layout}
use Rattle.je_consts.specs.Faults.{Reaches, FirstFault, count_cut, count_zero, no_entry, no_second}
use Rattle.je_consts.specs.Reading.{◌>>=◌}
use Rattle.je_consts.proofs.FieldLemmas.{Spells}
use Rattle.je_consts.proofs.OneEntry.{comes_spells}
use Rattle.je_consts.proofs.SpacedLemmas.{All-append, IsSpaced-append}
use Rattle.je_consts.proofs.PlaceLemmas.{Whole, Come, Behind, PoolComes, behind_place, count_parts}

module _ (bytes : List ℕ) (at count : ℕ) where
  -- one place more
  reaches_more : (places : List Place) (wide : Bool) (mid : ℕ) (p : Place) (last : Bool) (here : ℕ) → Reaches bytes at count places wide mid → Spells bytes mid (place_layout p) here → OfEntry Fits p → IsSpaced wide (p ∷ []) last
      → Reaches bytes at count (places ++ p ∷ []) last here
  reaches_more places wide mid p last here r s fits spaced =
      let before = entries_layout places in
      let layout : entries_layout (places ++ p ∷ []) ≡ before ++ place_layout p = flat_map-append place_layout places (p ∷ []) ∙ ap (λ (t : List ℕ). before ++ t) (append-nil (place_layout p)) in
      let rest : before ++ drop mid bytes ≡ entries_layout (places ++ p ∷ []) ++ drop here bytes = ap (λ (t : List ℕ). before ++ t) s.parts ∙ sym (append_assoc before (place_layout p) (drop here bytes)) ∙ ap (λ (t : List ℕ). t ++ drop here bytes) (sym layout) in
      record {
        count_fits = r.count_fits;
        parts = r.parts ∙ ap (λ (t : List ℕ). u2 count ++ t) rest;
        here_is = omega (arith, r.here_is, s.len, ap length layout, length-append before (place_layout p));
        fits = All-append (OfEntry Fits) places (p ∷ []) r.fits (fits, tt);
        spaced = IsSpaced-append false places wide (p ∷ []) last r.spaced spaced;
      }

  -- what reading came to behind these places
  abbrev CameTo : List Place → Whole → Type 0
  CameTo places (Ok x) = Reaches bytes at count (places ++ x.0) false x.1 × (length (places ++ x.0) + 1 ≡ count)
  CameTo places (Err d) = FirstFault bytes at d

  came_before : (places : List Place) (p : Place) (s r : Whole) → (s >>= behind_place p) ≡ r → CameTo (places ++ p ∷ []) s → CameTo places r
  came_before places p (Ok x) r e h =
      let joined : (places ++ p ∷ []) ++ x.0 ≡ places ++ (p ∷ x.0) = append_assoc places (p ∷ []) x.0 in
      subst (CameTo places) e (subst (λ (ps : List Place). Reaches bytes at count ps false x.1 × (length ps + 1 ≡ count)) joined h)
  came_before places p (Err d) r e h = subst (CameTo places) e h

  came : (wide : Bool) (n index here : ℕ) (places : List Place) (r : Whole) → Reaches bytes at count places wide here → index ≡ length places + 1 → index + n ≡ count → Come bytes wide n index here r → CameTo places r
  came true zero index here places r reached index_is sum h =
      let back : length places ≡ index - 1 = omega arith in
      subst (CameTo places) (ap (λ (k : ℕ). Err (BadConst k)) back ∙ sym h) (no_second count here places reached (omega arith))
  came false zero index here places r reached index_is sum h =
      let none : places ≡ places ++ [] = sym (append-nil places) in
      subst (CameTo places) (sym h) (subst (λ (ps : List Place). Reaches bytes at count ps false here × (length ps + 1 ≡ count)) none (reached, omega arith))
  came true (suc n) index here places r reached index_is sum h =
      let next = reaches_more places true here Second false here reached (record { parts = refl; len = omega arith }) tt (refl, refl) in
      came_before places Second h.0 r h.2 (came false n (index + 1) here (places ++ Second ∷ []) h.0 next (omega (arith, length-append places (Second ∷ []))) (omega arith) h.1)
  came false (suc n) index here places r reached index_is sum (inl h) =
      let fault_is : h.1.0 (length places + 1) ≡ h.0 = ap (λ (k : ℕ). h.1.0 k) (sym index_is) ∙ sym h.1.2 in
      subst (CameTo places) (ap (λ (d : ConstFault). Err d) fault_is ∙ sym h.2) (no_entry count here places h.1.0 reached (omega arith) h.1.1)
  came false (suc n) index here places r reached index_is sum (inr h) =
      let c = h.0.0 in
      let next = reaches_more places false here (Entry c) (is_wide c) h.0.1 reached (comes_spells index bytes here h.0 h.2) h.2.0 (refl, refl) in
      came_before places (Entry c) h.1 r h.4 (came (is_wide c) n (index + 1) h.0.1 (places ++ Entry c ∷ []) h.1 next (omega (arith, length-append places (Entry c ∷ []))) (omega arith) h.3)

-- what comes of a whole pool
abbrev PoolCameTo : List ℕ → ℕ → Whole → Type 0
PoolCameTo bytes at (Ok x) = Reaches bytes at (length x.0 + 1) x.0 false x.1
PoolCameTo bytes at (Err d) = FirstFault bytes at d

behind_came : (bytes : List ℕ) (at count mid : ℕ) (r : Whole) → Follows entry_format bytes at (count_parts bytes count) mid → Behind bytes count mid r → PoolCameTo bytes at r
behind_came bytes at zero mid r there h = subst (PoolCameTo bytes at) (sym h) (count_zero there.0)
behind_came bytes at (suc n) mid r there h = all r (came bytes at (suc n) false n 1 mid [] r none refl (omega arith) h)
  where
    none : Reaches bytes at (suc n) [] false mid
    none = record { count_fits = there.1.0; parts = there.0 ∙ ap (λ (k : ℕ). u2 (suc n) ++ drop k bytes) (sym there.2); here_is = omega (arith, there.2); fits = tt; spaced = refl }

    all : (s : Whole) → CameTo bytes at (suc n) [] s → PoolCameTo bytes at s
    all (Ok x) h = subst (λ (k : ℕ). Reaches bytes at k x.0 false x.1) (sym h.1) h.0
    all (Err d) h = h

pub pool_came : (bytes : List ℕ) (at : ℕ) (r : Whole) → PoolComes bytes at r → PoolCameTo bytes at r
pool_came bytes at r (inl h) = subst (PoolCameTo bytes at) (sym h.1) (count_cut h.0)
pool_came bytes at r (inr h) = behind_came bytes at h.0 h.1 r h.2 h.3

pub pool_fault : (bytes : List ℕ) (at : ℕ) (d : ConstFault) → PoolComes bytes at (Err d) → FirstFault bytes at d
pool_fault bytes at d h = pool_came bytes at (Err d) h

pub pool_takes : (bytes : List ℕ) (at : ℕ) (x : List Place × ℕ) → PoolComes bytes at (Ok x) → Reaches bytes at (length x.0 + 1) x.0 false x.1
pool_takes bytes at x h = pool_came bytes at (Ok x) h
