-- Offsets that rise, and the index of an offset among them.
use Rattle.std.proofs.Common.{◌≡◌, ℕ, zero, suc, ◌<◌, ◌≤◌, true, false, List, length, get_or, sym, ap, ◌∙◌, arith, inl, inr, eqb, eq-eqb, ne_eqb}
use Rattle.std.proofs.lemmas.Bool.{cases_lt}
use Rattle.std.proofs.lemmas.List.{get_or_default}
use Rattle.std.proofs.lemmas.List.Folds.{list_any_at, list_any_none}
use Rattle.std.proofs.lemmas.List.Sums.{position_or_len_is}
use Rattle.je_code.specs.Reading.{IsRising}
use Rattle.je_code.specs.Rows.{is_offset, index_at}

module _ (xs : List ℕ) (rising : IsRising xs) where
  pub never_fall : (i j : ℕ) → i ≤ j → j < length xs → get_or xs i 0 ≤ get_or xs j 0
  never_fall i j le lt =
      elim (cases_lt i j) [
        | inl less ↦ let r = rising i j less lt in omega (arith, r)
        | inr more ↦ let e : i ≡ j = omega (arith, le, more) in omega (arith, ap (λ (k : ℕ). get_or xs k 0) e)
      ]

  pub index_le : (k : ℕ) → k < length xs → k ≤ get_or xs k 0
  index_le zero lt = omega arith
  index_le (suc k) lt =
      let before = index_le k (omega (arith, lt)) in
      let r = rising k (suc k) (omega arith) lt in
      omega (arith, before, r)

  module _ (offset : ℕ) where
    pub is_at : (i : ℕ) → i < length xs → get_or xs i 0 ≡ offset → is_offset xs offset ≡ true
    is_at i lt e = list_any_at (eqb offset) xs i 0 lt (eq-eqb offset (get_or xs i 0) (sym e))

    pub index_is : (i : ℕ) → i < length xs → get_or xs i 0 ≡ offset → index_at xs offset ≡ i
    index_is i lt e =
        position_or_len_is (eqb offset) xs i 0 (omega (arith, lt))
        (λ k less. let r = rising k i less lt in ne_eqb offset (get_or xs k 0) (λ f. omega (arith, r, e, f)))
        (λ within. eq-eqb offset (get_or xs i 0) (sym e))

    pub none_is : (i : ℕ) → ((k : ℕ) → k < i → get_or xs k 0 < offset) → ((k : ℕ) → i ≤ k → k < length xs → offset < get_or xs k 0) → is_offset xs offset ≡ false
    none_is i below above =
        list_any_none (eqb offset) xs
        (λ k d lt.
        let differ : offset ≡ get_or xs k 0 → ⊥ =
        λ e. elim (cases_lt k i) [
          | inl less ↦ let b = below k less in omega (arith, b, e)
          | inr more ↦ let a = above k more lt in omega (arith, a, e)
        ] in
        ap (eqb offset) (get_or_default xs k d 0 lt) ∙ ne_eqb offset (get_or xs k 0) differ)
