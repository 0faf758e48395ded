-- What an index holds where more places stand behind: first the places, and then what the index answers.
use Rattle.std.proofs.Common.{◌≡◌, ℕ, zero, suc, ◌+◌, ◌-◌, ◌≤◌, ◌<◌, ◌⊎◌, ◌↔◌, Bool, true, false, cond, List, [], ◌∷◌, ◌++◌, length, Option, Some, None, IfSome, IfNone, IsTrue, refl, sym, ap, subst, ◌∙◌, arith, rules, inl, inr}
use Rattle.std.specs.Prelude.{slice_get, option_and_then}
use Rattle.std.proofs.Math.Nat.{add-suc, suc-add}
use Rattle.std.proofs.lemmas.Bool.{cases_lt}
use Rattle.je_consts.specs.contracts.constant.ConstPartialEq.TheImpl as block
use Rattle.je_consts.specs.declared.constant.Const.{Const}
use Rattle.je_consts.specs.declared.place.Place.{Place}
use Rattle.je_consts.specs.declared.place.Place.TheVariants.{Entry, Second}
use Rattle.je_consts.specs.Pool.{entry_of, const_at}
use Rattle.je_consts.specs.Adding.{IsMissing, IsLeastIndex}
use Rattle.je_consts.specs.declared.index.Index.{Index}
use Rattle.je_consts.specs.Indexed.{answer, Finds, IsIndexOf}
use Rattle.je_consts.proofs.AddLemmas.{const_stays, const_within}

-- ---- places before and behind

slice_behind : (xs ys : List Place) (j : ℕ) → slice_get (xs ++ ys) (length xs + j) ≡ slice_get ys j
slice_behind [] ys j = ap (slice_get ys) (omega arith)
slice_behind (x ∷ xs) ys j = rw (suc-add (length xs) j) (slice_behind xs ys j)

slice_before : (xs ys : List Place) (i : ℕ) → i < length xs → slice_get (xs ++ ys) i ≡ slice_get xs i
slice_before [] ys i lt = absurd (omega arith)
slice_before (x ∷ xs) ys zero lt = refl
slice_before (x ∷ xs) ys (suc i) lt = slice_before xs ys i (omega arith)

pub const_before : (xs ys : List Place) (i : ℕ) → i ≤ length xs → const_at (xs ++ ys) i ≡ const_at xs i
const_before xs ys zero le = refl
const_before xs ys (suc i) le = ap (option_and_then entry_of) (slice_before xs ys i (omega arith))

pub const_behind : (xs ys : List Place) (j : ℕ) → 0 < j → const_at (xs ++ ys) (length xs + j) ≡ const_at ys j
const_behind xs ys zero lt = absurd (omega arith)
const_behind xs ys (suc j) lt = rw (add-suc (length xs) j) (ap (option_and_then entry_of) (slice_behind xs ys j))

-- an index of both is one of those before, or one of those behind
const_split : (xs ys : List Place) (k : ℕ) (c : Const) → const_at (xs ++ ys) k ≡ Some c → (const_at xs k ≡ Some c) ⊎ ((j : ℕ) × (k ≡ length xs + j) × (const_at ys j ≡ Some c))
const_split xs ys k c h =
    elim (cases_lt (length xs) k) [
      | inl lt ↦
          let j = k - length xs in
          let is : k ≡ length xs + j = omega arith in
          let there : const_at (xs ++ ys) (length xs + j) ≡ Some c = subst (λ (i : ℕ). const_at (xs ++ ys) i ≡ Some c) is h in
          inr (j, is, sym (const_behind xs ys j (omega arith)) ∙ there)
      | inr le ↦ inl (sym (const_before xs ys k le) ∙ h)
    ]

positive : (ys : List Place) (j : ℕ) (c : Const) → const_at ys j ≡ Some c → 0 < j
positive ys zero c h = absurd cc
positive ys (suc j) c h = omega arith

pub missing_both : (xs ys : List Place) (c : Const) → IsMissing xs c → IsMissing ys c → IsMissing (xs ++ ys) c
missing_both xs ys c before behind k h =
    elim (const_split xs ys k c h) [ inl p ↦ before k p | inr q ↦ behind q.0 q.2 ]

pub least_before : (xs ys : List Place) (c : Const) (i : ℕ) → IsLeastIndex xs c i → IsLeastIndex (xs ++ ys) c i
least_before xs ys c i l = record {
  here = const_stays xs ys i c l.here;
  least = λ k h. elim (const_split xs ys k c h) [ inl p ↦ l.least k p | inr q ↦ omega (arith, const_within xs i c l.here, q.1) ];
}

pub least_behind : (xs ys : List Place) (c : Const) (j : ℕ) → IsMissing xs c → IsLeastIndex ys c j → IsLeastIndex (xs ++ ys) c (length xs + j)
least_behind xs ys c j none l = record {
  here = const_behind xs ys j (positive ys j c l.here) ∙ l.here;
  least = λ k h. elim (const_split xs ys k c h) [ inl p ↦ absurd (none k p) | inr q ↦ omega (arith, l.least q.0 q.2, q.1) ];
}

-- ---- one place more

alone : (p : Place) (j : ℕ) (c : Const) → const_at (p ∷ []) j ≡ Some c → (j ≡ 1) × (entry_of p ≡ Some c)
alone p zero c h = absurd cc
alone p (suc zero) c h = (refl, h)
alone p (suc (suc j)) c h = absurd cc

missing_one : (p : Place) (c : Const) → (entry_of p ≡ Some c → ⊥) → IsMissing (p ∷ []) c
missing_one p c other j h = other (alone p j c h).1

least_one : (c : Const) → IsLeastIndex (Entry c ∷ []) c 1
least_one c = record { here = refl; least = λ j h. omega (arith, (alone (Entry c) j c h).0) }

pub finds_none : (found : Const → Option ℕ) → ((c : Const) → found c ≡ None) → Finds [] found
finds_none found none = record { least = λ c i h. let e = none c in absurd cc; missing = λ c h i at. missing_none i c at }
  where
    missing_none : (i : ℕ) (c : Const) → const_at [] i ≡ Some c → ⊥
    missing_none zero c h = cc
    missing_none (suc i) c h = cc

module _ (places : List Place) (found : Const → Option ℕ) (finds : Finds places found) where
  pub finds_second : Finds (places ++ Second ∷ []) found
  finds_second = record {
    least = λ c i h. least_before places (Second ∷ []) c i (finds.least c i h);
    missing = λ c h. missing_both places (Second ∷ []) c (finds.missing c h) (missing_one Second c (λ e. cc));
  }

  -- an entry that is there already
  pub finds_old : (d : Const) (n : ℕ) → found d ≡ Some n → Finds (places ++ Entry d ∷ []) found
  finds_old d n there = record {
    least = λ c i h. least_before places (Entry d ∷ []) c i (finds.least c i h);
    missing = λ c h. missing_both places (Entry d ∷ []) c (finds.missing c h) (missing_one (Entry d) c (λ e. let same : d ≡ c = cc in let h' = subst (λ (x : Const). found x ≡ Some n) same there in cc));
  }

  -- and one that is new
  module _ (same : Const → Const → Bool) (own : (c : Const) → same c c ≡ true) (equal : (c d : Const) → same c d ≡ true → c ≡ d)
      (d : Const) (new : found d ≡ None) (after : Const → Option ℕ) (after_is : (c : Const) → after c ≡ cond (same d c) (Some (length places + 1)) (found c)) where
    least_by : (c : Const) (i : ℕ) (b : Bool) → same d c ≡ b → cond b (Some (length places + 1)) (found c) ≡ Some i → IsLeastIndex (places ++ Entry d ∷ []) c i
    least_by c i true e h =
        let is : length places + 1 ≡ i = cc in
        let here = least_behind places (Entry d ∷ []) d 1 (finds.missing d new) (least_one d) in
        let here' = subst (λ (x : Const). IsLeastIndex (places ++ Entry d ∷ []) x (length places + 1)) (equal d c e) here in
        subst (λ (k : ℕ). IsLeastIndex (places ++ Entry d ∷ []) c k) is here'
    least_by c i false e h = least_before places (Entry d ∷ []) c i (finds.least c i h)

    missing_by : (c : Const) (b : Bool) → same d c ≡ b → cond b (Some (length places + 1)) (found c) ≡ None → IsMissing (places ++ Entry d ∷ []) c
    missing_by c true e h = absurd cc
    missing_by c false e h =
        missing_both places (Entry d ∷ []) c (finds.missing c h) (missing_one (Entry d) c (λ is. let at : d ≡ c = cc in let e' = subst (λ (x : Const). same d x ≡ true) at (own d) in cc))

    pub finds_new : Finds (places ++ Entry d ∷ []) after
    finds_new = record {
      least = λ c i h. least_by c i (same d c) refl (sym (after_is c) ∙ h);
      missing = λ c h. missing_by c (same d c) refl (sym (after_is c) ∙ h);
    }

pub same_is : (c d : Const) → IsTrue (block.ghosts.eq c d) ↔ (c ≡ d)
same_is c d = search rules

-- ---- the index itself

module _ (places : List Place) (index : Index) (finds : IsIndexOf places index) where
  pub found_least : (c : Const) (r : Option ℕ) → r ≡ answer index c → IfSome r (IsLeastIndex places c)
  found_least c (Some i) e = finds.least c i (sym e)
  found_least c _ e = tt

  pub noted_second : (p : Place) → ((d : Const) → p ≡ Entry d → ⊥) → IsIndexOf (places ++ p ∷ []) index
  noted_second (Entry d) other = absurd (other d refl)
  noted_second Second other = finds_second places (answer index) finds

  noted_by : (d : Const) (r : Option ℕ) → answer index d ≡ r → (r ≡ None → ⊥) → IsIndexOf (places ++ Entry d ∷ []) index
  noted_by d (Some n) e some = finds_old places (answer index) finds d n e
  noted_by d None e some = absurd (some refl)

  pub noted_old : (d : Const) → (answer index d ≡ None → ⊥) → IsIndexOf (places ++ Entry d ∷ []) index
  noted_old d some = noted_by d (answer index d) refl some

  pub noted_new : (d : Const) (n : ℕ) (after : Index) → length places + 1 ≡ n → answer index d ≡ None → ((q : Const) → answer after q ≡ cond (block.ghosts.eq d q) (Some n) (answer index q)) → IsIndexOf (places ++ Entry d ∷ []) after
  noted_new d n after len new after_is =
      finds_new places (answer index) finds block.ghosts.eq (λ c. (same_is c c).1 refl) (λ c e. (same_is c e).0) d new (answer after)
      (λ q. after_is q ∙ ap (λ (k : ℕ). cond (block.ghosts.eq d q) (Some k) (answer index q)) (sym len))

pub if_none : {A : Type 0} (r : Option A) (P : Type 0) → P → IfNone r P
if_none (Some x) P h = tt
if_none _ P h = h
