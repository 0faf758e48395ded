-- What comes of reading places: the places and the offset after them, or the first fault.
use Rattle.std.proofs.Common.{◌≡◌, ℕ, zero, suc, ◌+◌, ◌-◌, ◌^◌, ◌<◌, Bool, true, false, cond, eqb, List, [], ◌∷◌, length, drop, Ok, Err, refl, sym, ap, subst, ◌∙◌, arith, inl, inr, ◌⊎◌}
use Rattle.std.specs.Int.{w16}
use Rattle.std.proofs.lemmas.Bool.{ne_eqb}
use Rattle.je_base.specs.Bytes.{u2}
use Rattle.je_base.specs.Parts.{U2, Follows, OneWay}
use Rattle.je_consts.specs.declared.fault.ConstFault.{ConstFault}
use Rattle.je_consts.specs.declared.fault.ConstFault.TheVariants.{Truncated, BadConst}
use Rattle.je_consts.specs.declared.constant.Const.{Const}
use Rattle.je_consts.specs.declared.place.Place.{Place}
use Rattle.je_consts.specs.declared.place.Place.TheVariants.{Entry, Second}
use Rattle.je_consts.specs.EntryParts.{EntryFault, entry_format, Part}
use Rattle.je_consts.specs.Pool.{is_wide, leads_second}
use Rattle.je_consts.specs.Reading.{◌>>=◌, number_at, entry_at, place_at, places_at, spelled_at}
use Rattle.je_consts.proofs.FieldLemmas.{Read, IsBytes, ok_is, err_is, wide16, number_takes, number_cut}
use Rattle.je_consts.proofs.EntryLemmas.{Comes, there_of, entry_comes}
use Rattle.je_consts.proofs.OneEntry.{one_answer}

abbrev pub Whole : Type 0
Whole = Read (List Place × ℕ)

abbrev pub behind_place : Place → List Place × ℕ → Whole
behind_place p x = Ok (p ∷ x.0, x.1)

abbrev entry_step : Const × ℕ → Read (Place × ℕ)
entry_step x = Ok (Entry x.0, x.1)

module _ (bytes : List ℕ) where
  -- so many places from an index on; `wide` says that a Long or Double stands at the index before
  abbrev pub Come : Bool → ℕ → ℕ → ℕ → Whole → Type 0
  Come true zero index at r = r ≡ Err (BadConst (index - 1))
  Come false zero index at r = r ≡ Ok ([], at)
  Come true (suc n) index at r = (s : Whole) × Come false n (index + 1) at s × ((s >>= behind_place Second) ≡ r)
  Come false (suc n) index at r =
      ((d : ConstFault) × Comes index bytes at (Err d) × (r ≡ Err d))
      ⊎ ((x : Const × ℕ) × (s : Whole) × Comes index bytes at (Ok x) × Come (is_wide x.0) n (index + 1) x.1 s × ((s >>= behind_place (Entry x.0)) ≡ r))

  -- the places behind this count
  abbrev pub Behind : ℕ → ℕ → Whole → Type 0
  Behind zero mid r = r ≡ Err (BadConst 0)
  Behind (suc n) mid r = Come false n 1 mid r

  abbrev pub count_parts : ℕ → List Part
  count_parts count = U2 count [] ∷ []

  -- the count and the places
  abbrev pub PoolComes : ℕ → Whole → Type 0
  PoolComes at r =
      ((length (drop at bytes) < 2) × (r ≡ Err (Truncated at)))
      ⊎ ((count : ℕ) × (mid : ℕ) × Follows entry_format bytes at (count_parts count) mid × Behind count mid r)

  -- ---- there is one answer

  module _ (way : OneWay entry_format) where
    come_one : (wide : Bool) (n index at : ℕ) (r s : Whole) → Come wide n index at r → Come wide n index at s → r ≡ s
    come_one true zero index at r s h k = h ∙ sym k
    come_one false zero index at r s h k = h ∙ sym k
    come_one true (suc n) index at r s h k = sym h.2 ∙ ap (λ (t : Whole). t >>= behind_place Second) (come_one false n (index + 1) at h.0 k.0 h.1 k.1) ∙ k.2
    come_one false (suc n) index at r s (inl h) (inl k) =
        let same = err_is h.0 k.0 (one_answer way index bytes at (Err h.0) (Err k.0) h.1 k.1) in
        h.2 ∙ ap (λ (d : ConstFault). Err d) same ∙ sym k.2
    come_one false (suc n) index at r s (inl h) (inr k) = let differ = one_answer way index bytes at (Err h.0) (Ok k.0) h.1 k.2 in absurd cc
    come_one false (suc n) index at r s (inr h) (inl k) = let differ = one_answer way index bytes at (Ok h.0) (Err k.0) h.2 k.1 in absurd cc
    come_one false (suc n) index at r s (inr h) (inr k) =
        let same = ok_is h.0 k.0 (one_answer way index bytes at (Ok h.0) (Ok k.0) h.2 k.2) in
        let more = subst (λ (x : Const × ℕ). Come (is_wide x.0) n (index + 1) x.1 h.1) same h.3 in
        let rest = come_one (is_wide k.0.0) n (index + 1) k.0.1 h.1 k.1 more k.3 in
        sym h.4 ∙ ap (λ (x : Const × ℕ). h.1 >>= behind_place (Entry x.0)) same ∙ ap (λ (t : Whole). t >>= behind_place (Entry k.0.0)) rest ∙ k.4

    behind_one : (count mid : ℕ) (r s : Whole) → Behind count mid r → Behind count mid s → r ≡ s
    behind_one zero mid r s h k = h ∙ sym k
    behind_one (suc n) mid r s h k = come_one false n 1 mid r s h k

    cut_not_there : (at count mid : ℕ) → length (drop at bytes) < 2 → Follows entry_format bytes at (count_parts count) mid → ⊥
    cut_not_there at count mid short there =
        let fault : EntryFault = λ index. Truncated at in
        way.agree bytes at (count_parts count) (count_parts count) (Ok mid) (Err fault) (λ e. refl, λ e. tt) (record { goes = there }) (record { goes = inl (inl (short, refl)) })

    counts_same : (m n : ℕ) → count_parts m ≡ count_parts n → m ≡ n
    counts_same m n e = cc

    pub pool_one : (at : ℕ) (r s : Whole) → PoolComes at r → PoolComes at s → r ≡ s
    pool_one at r s (inl h) (inl k) = h.1 ∙ sym k.1
    pool_one at r s (inl h) (inr k) = absurd (cut_not_there at k.0 k.1 h.0 k.2)
    pool_one at r s (inr h) (inl k) = absurd (cut_not_there at h.0 h.1 k.0 h.2)
    pool_one at r s (inr h) (inr k) =
        let both = way.agree bytes at (count_parts h.0) (count_parts k.0) (Ok h.1) (Ok k.1) (λ e. refl, λ e. tt) (record { goes = h.2 }) (record { goes = k.2 }) in
        let behind = subst (λ (m : ℕ). Behind h.0 m r) both.1 h.3 in
        behind_one k.0 k.1 r s (subst (λ (n : ℕ). Behind n k.1 r) (counts_same h.0 k.0 both.0) behind) k.3

  -- ---- reading gives one

  module _ (fits : IsBytes bytes) where
    by_entry : (n index at : ℕ) (r : Whole) → ((wide : Bool) (mid : ℕ) → Come wide n (index + 1) mid (places_at wide n (index + 1) bytes mid)) → (m : Read (Const × ℕ)) → entry_at index bytes at ≡ m
        → ((m >>= entry_step) >>= λ first. places_at (leads_second first.0) n (index + 1) bytes first.1 >>= behind_place first.0) ≡ r → Come false (suc n) index at r
    by_entry n index at r rest (Err d) read e = inl (d, entry_comes index bytes fits at (Err d) read, sym e)
    by_entry n index at r rest (Ok x) read e = inr (x, places_at (is_wide x.0) n (index + 1) bytes x.1, entry_comes index bytes fits at (Ok x) read, rest (is_wide x.0) x.1, e)

    places_come : (wide : Bool) (n index at : ℕ) → Come wide n index at (places_at wide n index bytes at)
    unfolding places_at place_at
    places_come true zero index at = refl
    places_come false zero index at = refl
    places_come true (suc n) index at = (places_at false n (index + 1) bytes at, places_come false n (index + 1) at, refl)
    places_come false (suc n) index at = by_entry n index at (places_at false (suc n) index bytes at) (λ wide mid. places_come wide n (index + 1) mid) (entry_at index bytes at) refl refl

    pub spelled_comes : (at : ℕ) (r : Whole) → spelled_at bytes at ≡ r → PoolComes at r
    unfolding spelled_at
    spelled_comes at r e = by_count (number_at w16 bytes at) refl e
      where
        behind_count : (count mid : ℕ) → cond (eqb count 0) (Err (BadConst 0)) (places_at false (count - 1) 1 bytes mid) ≡ r → Behind count mid r
        behind_count zero mid e = sym e
        behind_count (suc n) mid e =
            let some : eqb (suc n) 0 ≡ false = ne_eqb (suc n) 0 (λ h. omega (arith, h)) in
            let less : suc n - 1 ≡ n = omega arith in
            let read : places_at false n 1 bytes mid ≡ r = rw (some, less) at e in
            subst (Come false n 1 mid) read (places_come false n 1 mid)

        by_count : (m : Read (ℕ × ℕ)) → number_at w16 bytes at ≡ m → (m >>= λ count. cond (eqb count.0 0) (Err (BadConst 0)) (places_at false (count.0 - 1) 1 bytes count.1)) ≡ r → PoolComes at r
        by_count (Err d) read e = let k = number_cut w16 (2 ^ 16) wide16 bytes at d read in inl (k.1, sym e ∙ ap (λ (f : ConstFault). Err f) k.0)
        by_count (Ok x) read e = let k = number_takes w16 (2 ^ 16) wide16 bytes at x fits read in inr (x.0, x.1, (there_of bytes at (u2 x.0) x.1 k.0, (k.1, tt), k.0.len), behind_count x.0 x.1 e)
