-- Marks of a choice for each index.
use Rattle.std.proofs.Common.{◌≡◌, ℕ, zero, suc, ◌+◌, ◌<◌, List, [], ◌∷◌, Option, Some, None, Bool, true, false, cond, ◌&&◌, nat_eq, option_map, refl, ap, ◌∙◌, arith}
use Rattle.std.specs.List.{AllByRecursion, AllZip, find}
use Rattle.std.proofs.lemmas.Bool.{eqb-true, eq-eqb}
use Rattle.je_consts.specs.declared.place.Place.{Place}
use Rattle.je_splice.specs.Laid.{Fragment}
use Rattle.je_splice.specs.Put.{PutAt, is_instead, StandsInstead, replacements, chosen_at}
use Rattle.je_splice.specs.Resolved.{CodePiece, IsInstead, IsPlacedAs}

apart : (a b : ℕ) → (a ≡ b → ⊥) → nat_eq a b ≡ false
apart a b differ = by_test (nat_eq a b) refl where
  by_test : (t : Bool) → nat_eq a b ≡ t → nat_eq a b ≡ false
  by_test true e = absurd (differ (eqb-true a b e))
  by_test false e = e

pub all_stand : {X : Type 0} (i : ℕ) (choices : List (Option X)) → AllByRecursion StandsInstead (replacements i choices)
all_stand i [] = tt
all_stand i (None ∷ choices) = all_stand (suc i) choices
all_stand i (Some x ∷ choices) = (record { removed = refl; jumps = refl }, all_stand (suc i) choices)

module _ {X : Type 0} where
  -- what the list puts in the place of an instruction
  abbrev found : ℕ → ℕ → List (Option X) → Option X
  found k i choices = option_map (λ (put : PutAt X). put.piece) (find (is_instead i) (replacements k choices))

  passes : (k i : ℕ) (x : X) (choices : List (Option X)) → nat_eq k i ≡ false → found k i (Some x ∷ choices) ≡ found (suc k) i choices
  passes k i x choices e =
      ap (λ (b : Bool). option_map (λ (put : PutAt X). put.piece) (cond (b && true) (Some (record { at = k; removed = true; jumps = true; piece = x })) (find (is_instead i) (replacements (suc k) choices)))) e

  none_before : (k i : ℕ) (choices : List (Option X)) → i < k → found k i choices ≡ None
  none_before k i [] lt = refl
  none_before k i (None ∷ choices) lt = none_before (suc k) i choices (omega (arith, lt))
  none_before k i (Some x ∷ choices) lt = passes k i x choices (apart k i (λ e. omega (arith, e, lt))) ∙ none_before (suc k) i choices (omega (arith, lt))

  is_found : (k j : ℕ) (choices : List (Option X)) → found k (k + j) choices ≡ chosen_at choices j
  is_found k j [] = refl
  is_found k zero (None ∷ choices) = none_before (suc k) (k + 0) choices (omega arith)
  is_found k (suc j) (None ∷ choices) =
      let next : k + suc j ≡ suc k + j = omega arith in
      ap (λ (i : ℕ). found (suc k) i choices) next ∙ is_found (suc k) j choices
  is_found k zero (Some x ∷ choices) =
      let none : k + 0 ≡ k = omega arith in
      let here : nat_eq k (k + 0) ≡ true = ap (nat_eq k) none ∙ eq-eqb k k refl in
      ap
      (λ (b : Bool). option_map (λ (put : PutAt X). put.piece) (cond (b && true) (Some (record { at = k; removed = true; jumps = true; piece = x })) (find (is_instead (k + 0)) (replacements (suc k) choices)))) here
  is_found k (suc j) (Some x ∷ choices) =
      let next : k + suc j ≡ suc k + j = omega arith in
      passes k (k + suc j) x choices (apart k (k + suc j) (λ e. omega (arith, e))) ∙ ap (λ (i : ℕ). found (suc k) i choices) next ∙ is_found (suc k) j choices

  pub chosen_there : (i : ℕ) (choices : List (Option X)) → found 0 i choices ≡ chosen_at choices i
  chosen_there i choices =
      let same : i ≡ 0 + i = omega arith in
      ap (λ (n : ℕ). found 0 n choices) same ∙ is_found 0 i choices

pub choices_placed : {X Y : Type 0} (consts : List Place) (piece_of : X → CodePiece) (fragment_of : Y → Fragment) (completes : X → Bool) (goes_on : Y → Bool) (i : ℕ) (xs : List (Option X)) (ys : List (Option Y))
    → AllZip (IsInstead consts piece_of fragment_of completes goes_on) xs ys → AllZip (IsPlacedAs consts piece_of fragment_of completes goes_on) (replacements i xs) (replacements i ys)
choices_placed consts piece_of fragment_of completes goes_on i [] [] h = tt
choices_placed consts piece_of fragment_of completes goes_on i [] (y ∷ ys) h = absurd h
choices_placed consts piece_of fragment_of completes goes_on i (x ∷ xs) [] h = absurd h
choices_placed consts piece_of fragment_of completes goes_on i (None ∷ xs) (None ∷ ys) h = choices_placed consts piece_of fragment_of completes goes_on (suc i) xs ys h.1
choices_placed consts piece_of fragment_of completes goes_on i (None ∷ xs) (Some y ∷ ys) h = absurd h.0
choices_placed consts piece_of fragment_of completes goes_on i (Some x ∷ xs) (None ∷ ys) h = absurd h.0
choices_placed consts piece_of fragment_of completes goes_on i (Some x ∷ xs) (Some y ∷ ys) h =
    (record { at = refl; removed = refl; jumps = refl; piece = h.0 }, choices_placed consts piece_of fragment_of completes goes_on (suc i) xs ys h.1)
