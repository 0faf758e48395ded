-- What is read is a pool between two offsets, and each such pool is read.
use Rattle.std.proofs.Common.{◌≡◌, ℕ, zero, suc, ◌+◌, ◌-◌, ◌≤◌, List, [], ◌∷◌, ◌++◌, false, length, take, drop, Ok, Err, Option, Some, IfSome, IsSomeAnd, refl, sym, ap, subst, ◌∙◌, append_assoc, length-append, length-drop, arith, inl, inr, ◌⊎◌, take-append-drop}
use Rattle.std.specs.Prelude.{slice_get, option_and_then}
use Rattle.std.specs.List.{AllByRecursion}
use Rattle.std.proofs.lemmas.Bool.{cases_lt}
use Rattle.std.proofs.lemmas.List.{take_at, length-take, drop-drop}
use Rattle.je_consts.specs.declared.constant.Const.{Const}
use Rattle.je_consts.specs.declared.place.Place.{Place}
use Rattle.je_consts.specs.declared.place.Place.TheVariants.{Entry, Second}
use Rattle.je_consts.specs.Pool.{entry_of, const_at, Names, OfEntry, IsLeastMisfit}
use Rattle.je_base.specs.Bytes.{u2}
use Rattle.je_base.specs.Parts.{OneWay}
use Rattle.je_consts.specs.EntryParts.{entry_format}
use Rattle.je_consts.specs.Layout.{entries_layout, pool_layout, IsPoolAt}
use Rattle.je_consts.specs.declared.fault.ConstFault.{ConstFault}
use Rattle.je_consts.specs.declared.fault.ConstFault.TheVariants as faults
use Rattle.je_consts.specs.Faults.{Reaches, FirstFault, misfit}
use Rattle.je_consts.specs.Reading.{Fails, spelled_at}
use Rattle.je_consts.proofs.FieldLemmas.{IsBytes, ok_is, err_is}
use Rattle.je_consts.proofs.ExactLemmas.{all_come, comes_as}
use Rattle.je_consts.proofs.FaultLemmas.{pool_takes}
use Rattle.je_consts.proofs.PlaceLemmas.{Whole, PoolComes, pool_one, spelled_comes}

is_pool_at : (bytes : List ℕ) (at : ℕ) (x : List Place × ℕ) → at ≤ length bytes → Reaches bytes at (length x.0 + 1) x.0 false x.1 → AllByRecursion (OfEntry (Names x.0)) x.0 → IsPoolAt bytes at x.1 x.0
is_pool_at bytes at x within r names =
    let count = u2 (length x.0 + 1) in
    let entries = entries_layout x.0 in
    let parts : drop at bytes ≡ pool_layout x.0 ++ drop x.1 bytes = r.parts ∙ sym (append_assoc count entries (drop x.1 bytes)) in
    let len : length (pool_layout x.0) ≡ x.1 - at = omega (arith, r.here_is, length-append count entries) in
    record {
      order = omega (arith, r.here_is);
      within = omega (arith, r.here_is, len, ap length parts, length-append (pool_layout x.0) (drop x.1 bytes), length-drop at bytes, length-drop x.1 bytes);
      spelled = record {
        layout = ap (take (x.1 - at)) parts ∙ take_at (pool_layout x.0) (drop x.1 bytes) (x.1 - at) len;
        pool = record { fits = r.fits; spaced = r.spaced; names = names; count = r.count_fits };
      };
    }

is_reached : (bytes : List ℕ) (at end : ℕ) (places : List Place) → IsPoolAt bytes at end places → Reaches bytes at (length places + 1) places false end
is_reached bytes at end places h =
    let pool = h.spelled.pool in
    let text = pool_layout places in
    let rest = drop (end - at) (drop at bytes) in
    let count = u2 (length places + 1) in
    let entries = entries_layout places in
    let rest_is : rest ≡ drop end bytes = drop-drop (end - at) at bytes ∙ ap (λ (k : ℕ). drop k bytes) (omega (arith, h.order)) in
    let parts : drop at bytes ≡ text ++ rest = sym (take-append-drop (end - at) (drop at bytes)) ∙ ap (λ (t : List ℕ). t ++ rest) h.spelled.layout in
    let len : length text ≡ end - at = omega (arith, ap length h.spelled.layout, length-take (end - at) (drop at bytes), length-drop at bytes, h.order, h.within) in
    record {
      count_fits = pool.count;
      parts = parts ∙ append_assoc count entries rest ∙ ap (λ (t : List ℕ). count ++ (entries ++ t)) rest_is;
      here_is = omega (arith, h.order, len, length-append count entries);
      fits = pool.fits;
      spaced = pool.spaced;
    }

pub pool_comes : (bytes : List ℕ) (at end : ℕ) (places : List Place) → IsPoolAt bytes at end places → PoolComes bytes at (Ok (places, end))
pool_comes bytes at end places h = all_come bytes at (length places + 1) end places (is_reached bytes at end places h) refl

-- ---- what every entry names fits, so there is no misfit

names_in : (P : Const → Type 0) (places : List Place) (i : ℕ) → AllByRecursion (OfEntry P) places → IsSomeAnd (option_and_then entry_of (slice_get places i)) (λ c. P c → ⊥) → ⊥
names_in P [] i all h = h
names_in P (Entry c ∷ places) zero all h = h all.0
names_in P (Second ∷ places) zero all h = h
names_in P (place ∷ places) (suc i) all h = names_in P places i all.1 h

pub no_misfit : (places : List Place) (index : ℕ) → AllByRecursion (OfEntry (Names places)) places → IsLeastMisfit places index → ⊥
no_misfit places zero all least = least.misfit
no_misfit places (suc i) all least = names_in (Names places) places i all least.misfit

clash : (o : Option Const) (P : Const → Type 0) → IfSome o P → IsSomeAnd o (λ c. P c → ⊥) → ⊥
clash (Some c) P holds fails = fails holds
clash _ P holds fails = fails

one_misfit : (places : List Place) (i k : ℕ) → IsLeastMisfit places i → IsLeastMisfit places k → i ≡ k
one_misfit places i k p q =
    elim (cases_lt i k) [
      | inl lt ↦ absurd (clash (const_at places i) (Names places) (q.before i lt) p.misfit)
      | inr le ↦ elim (cases_lt k i) [
        | inl lt ↦ absurd (clash (const_at places k) (Names places) (p.before k lt) q.misfit)
        | inr ge ↦ omega arith
      ]
    ]

-- ---- what comes is a pool or the first fault, and nothing else is

abbrev done : List Place × ℕ → Whole
done x = Ok x

not_both : {A : Type 0} (x : List Place × ℕ) (d : ConstFault) → done x ≡ Err d → A
not_both x d e = absurd cc

module _ (bytes : List ℕ) (at : ℕ) where
  pub found : (x : List Place × ℕ) → at ≤ length bytes → PoolComes bytes at (Ok x) → AllByRecursion (OfEntry (Names x.0)) x.0 → IsPoolAt bytes at x.1 x.0
  found x within h names = is_pool_at bytes at x within (pool_takes bytes at x h) names

  pub misfit_first : (x : List Place × ℕ) (index : ℕ) → PoolComes bytes at (Ok x) → IsLeastMisfit x.0 index → FirstFault bytes at (faults.BadConst index)
  misfit_first x index h least = misfit (length x.0 + 1) x.1 x.0 index (pool_takes bytes at x h) refl least

  module _ (way : OneWay entry_format) where
    pub same_pool : (x : List Place × ℕ) → PoolComes bytes at (Ok x) → (places : List Place) (end : ℕ) → IsPoolAt bytes at end places → x ≡ (places, end)
    same_pool x h places end k = ok_is x (places, end) (pool_one bytes way at (Ok x) (Ok (places, end)) h (pool_comes bytes at end places k))

    pub no_pool : (d : ConstFault) → PoolComes bytes at (Err d) → (places : List Place) (end : ℕ) → IsPoolAt bytes at end places → ⊥
    no_pool d h places end k = not_both (places, end) d (pool_one bytes way at (Ok (places, end)) (Err d) (pool_comes bytes at end places k) h)

    pub misfit_no_pool : (x : List Place × ℕ) (index : ℕ) → PoolComes bytes at (Ok x) → IsLeastMisfit x.0 index → (places : List Place) (end : ℕ) → IsPoolAt bytes at end places → ⊥
    misfit_no_pool x index h least places end k =
        let same : x.0 ≡ places = ap (λ (p : List Place × ℕ). p.0) (same_pool x h places end k) in
        no_misfit places index k.spelled.pool.names (subst (λ (ps : List Place). IsLeastMisfit ps index) same least)

    module _ (d : ConstFault) (first : FirstFault bytes at d) where
      pub same_fault : (e : ConstFault) → PoolComes bytes at (Err e) → e ≡ d
      same_fault e h =
          elim (comes_as bytes at d first) [
            | inl p ↦ err_is {A = List Place × ℕ} e d (pool_one bytes way at (Err e) (Err d) h p)
            | inr q ↦ not_both q.0 e (pool_one bytes way at (Ok q.0) (Err e) q.2 h)
          ]

      -- where places come, it is one of them that names none that fits
      pub least_misfit : (x : List Place × ℕ) → PoolComes bytes at (Ok x) → (index : ℕ) × IsLeastMisfit x.0 index × (d ≡ faults.BadConst index)
      least_misfit x h =
          elim (comes_as bytes at d first) [
            | inl p ↦ not_both x d (pool_one bytes way at (Ok x) (Err d) h p)
            | inr q ↦
                let same : q.0 ≡ x = ok_is q.0 x (pool_one bytes way at (Ok q.0) (Ok x) q.2 h) in
                (q.1, subst (λ (y : List Place × ℕ). IsLeastMisfit y.0 q.1) same q.3, q.4)
          ]

      pub same_misfit : (x : List Place × ℕ) (index : ℕ) → PoolComes bytes at (Ok x) → IsLeastMisfit x.0 index → faults.BadConst index ≡ d
      same_misfit x index h least =
          let m = least_misfit x h in
          ap (λ (i : ℕ). faults.BadConst i) (one_misfit x.0 index m.0 least m.1) ∙ sym m.2

      pub no_fault : (x : List Place × ℕ) → PoolComes bytes at (Ok x) → AllByRecursion (OfEntry (Names x.0)) x.0 → ⊥
      no_fault x h names = let m = least_misfit x h in no_misfit x.0 m.0 names m.1

-- ---- what reading failed with, unless memory ran out

pub failed_comes : (bytes : List ℕ) (at : ℕ) (e : ConstFault) → IsBytes bytes → Fails e (spelled_at bytes at) → (e ≡ faults.Memory) ⊎ PoolComes bytes at (Err e)
failed_comes bytes at faults.Memory fits fails = inl refl
failed_comes bytes at (faults.Truncated o) fits fails = inr (spelled_comes bytes fits at (Err (faults.Truncated o)) fails)
failed_comes bytes at (faults.BadConst i) fits fails = inr (spelled_comes bytes fits at (Err (faults.BadConst i)) fails)
