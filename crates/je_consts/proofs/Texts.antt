-- The test of texts says what modified UTF-8 is.
use Rattle.std.proofs.Common.{◌≡◌, ℕ, zero, suc, ◌≤◌, ◌<◌, Bool, true, false, cond, List, [], ◌∷◌, ◌++◌, length, refl, ap, ◌∙◌, arith, inl, inr, ◌⊎◌}
use Rattle.std.specs.List.{flat_map, AllByRecursion}
use Rattle.std.proofs.lemmas.Bool.{cases_lt}
use Rattle.std.proofs.lemmas.Bool.Decides.{nat_tests}
use Rattle.je_base.specs.Text.{IsContinuation, IsUnit, IsModifiedUtf8}
use Rattle.je_consts.specs.Reading.{between, is_text_after, is_text}

pub between-true : (low high b : ℕ) → between low high b ≡ true → (low ≤ b) × (b ≤ high)
between-true low high b e = grind (arith, nat_tests)

pub true-between : (low high b : ℕ) → low ≤ b → b ≤ high → between low high b ≡ true
true-between low high b above below = grind (arith, nat_tests)

past-between : (low high b : ℕ) → high < b → between low high b ≡ false
past-between low high b above = grind (arith, nat_tests)

-- which way a test went
chosen : (b x y : Bool) → cond b x y ≡ true → ((b ≡ true) × (x ≡ true)) ⊎ (y ≡ true)
chosen true x y e = inl (refl, e)
chosen false x y e = inr e

-- so many continuations, and then units
abbrev Splits : ℕ → List ℕ → Type 0
Splits wanted bytes =
    (front : List ℕ) × (rest : List ℕ) × (length front ≡ wanted) × AllByRecursion IsContinuation front × (bytes ≡ front ++ rest) × IsModifiedUtf8 rest

-- the byte and so many continuations are a unit
abbrev Leads : ℕ → ℕ → Type 0
Leads b after = (front : List ℕ) → length front ≡ after → AllByRecursion IsContinuation front → IsUnit (b ∷ front)

leads_none : (b : ℕ) → (1 ≤ b) × (b ≤ 127) → Leads b 0
leads_none b within [] len each = within
leads_none b within (x ∷ front) len each = absurd (omega arith)

leads_one : (b : ℕ) → (192 ≤ b) × (b ≤ 223) → Leads b 1
leads_one b within [] len each = absurd (omega arith)
leads_one b within (x ∷ []) len each = (within, each.0)
leads_one b within (x ∷ y ∷ front) len each = absurd (omega arith)

leads_two : (b : ℕ) → (224 ≤ b) × (b ≤ 239) → Leads b 2
leads_two b within [] len each = absurd (omega arith)
leads_two b within (x ∷ []) len each = absurd (omega arith)
leads_two b within (x ∷ y ∷ []) len each = (within, each.0, each.1.0)
leads_two b within (x ∷ y ∷ z ∷ front) len each = absurd (omega arith)

Splits-cons : (b after : ℕ) (rest : List ℕ) → Leads b after → Splits after rest → Splits 0 (b ∷ rest)
Splits-cons b after rest leads tail =
    ([], b ∷ rest, refl, tt, refl, ((b ∷ tail.0) ∷ tail.5.0, (leads tail.0 tail.2 tail.3, tail.5.1), ap (λ s. b ∷ s) (tail.4 ∙ ap (λ s. tail.0 ++ s) tail.5.2)))

Splits-from_test : (wanted : ℕ) (bytes : List ℕ) → is_text_after wanted bytes ≡ true → Splits wanted bytes
Splits-from_test zero [] e = ([], [], refl, tt, refl, ([], tt, refl))
Splits-from_test (suc wanted) [] e = absurd cc
Splits-from_test zero (b ∷ rest) e =
    elim (chosen (between 1 127 b) (is_text_after 0 rest) (cond (between 192 223 b) (is_text_after 1 rest) (cond (between 224 239 b) (is_text_after 2 rest) false)) e) [
      | inl p ↦ Splits-cons b 0 rest (leads_none b (between-true 1 127 b p.0)) (Splits-from_test 0 rest p.1)
      | inr q ↦ elim (chosen (between 192 223 b) (is_text_after 1 rest) (cond (between 224 239 b) (is_text_after 2 rest) false) q) [
        | inl p ↦ Splits-cons b 1 rest (leads_one b (between-true 192 223 b p.0)) (Splits-from_test 1 rest p.1)
        | inr r ↦ elim (chosen (between 224 239 b) (is_text_after 2 rest) false r) [
          | inl p ↦ Splits-cons b 2 rest (leads_two b (between-true 224 239 b p.0)) (Splits-from_test 2 rest p.1)
          | inr s ↦ absurd cc
        ]
      ]
    ]
Splits-from_test (suc wanted) (b ∷ rest) e =
    elim (chosen (between 128 191 b) (is_text_after wanted rest) false e) [
      | inl p ↦
          let tail = Splits-from_test wanted rest p.1 in
          (b ∷ tail.0, tail.1, ap suc tail.2, (between-true 128 191 b p.0, tail.3), ap (λ s. b ∷ s) tail.4, tail.5)
      | inr s ↦ absurd cc
    ]

-- with no continuations wanted all of it is units
IsModifiedUtf8-from_splits : (bytes : List ℕ) → Splits 0 bytes → IsModifiedUtf8 bytes
IsModifiedUtf8-from_splits bytes ([], rest, len, each, whole, units) = rw whole units
IsModifiedUtf8-from_splits bytes (x ∷ front, rest, len, each, whole, units) = absurd (omega arith)

units-pass : (units : List (List ℕ)) → AllByRecursion IsUnit units → is_text_after 0 (flat_map (λ unit. unit) units) ≡ true
units-pass [] each = refl
units-pass ([] ∷ units) each = absurd each.0
units-pass ((a ∷ []) ∷ units) each = rw (true-between 1 127 a each.0.0 each.0.1) (units-pass units each.1)
units-pass ((a ∷ b ∷ []) ∷ units) each =
    rw (past-between 1 127 a (omega (arith, each.0.0.0)), true-between 192 223 a each.0.0.0 each.0.0.1, true-between 128 191 b each.0.1.0 each.0.1.1) (units-pass units each.1)
units-pass ((a ∷ b ∷ c ∷ []) ∷ units) each =
    rw (past-between 1 127 a (omega (arith, each.0.0.0)), past-between 192 223 a (omega (arith, each.0.0.0)), true-between 224 239 a each.0.0.0 each.0.0.1, true-between 128 191 b each.0.1.0 each.0.1.1, true-between 128 191 c each.0.2.0 each.0.2.1) (units-pass units each.1)
units-pass ((a ∷ b ∷ c ∷ d ∷ r) ∷ units) each = absurd each.0

pub IsModifiedUtf8-from_test : (bytes : List ℕ) → is_text bytes ≡ true → IsModifiedUtf8 bytes
unfolding is_text
IsModifiedUtf8-from_test bytes e = IsModifiedUtf8-from_splits bytes (Splits-from_test 0 bytes e)

pub is_text-true : (bytes : List ℕ) → IsModifiedUtf8 bytes → is_text bytes ≡ true
unfolding is_text
is_text-true bytes h = rw h.2 (units-pass h.0 h.1)

false_test : (b : Bool) → (b ≡ true → ⊥) → b ≡ false
false_test true none = absurd (none refl)
false_test false none = refl

pub is_text-false : (bytes : List ℕ) → (IsModifiedUtf8 bytes → ⊥) → is_text bytes ≡ false
is_text-false bytes none = false_test (is_text bytes) (λ e. none (IsModifiedUtf8-from_test bytes e))

pub outside : (low high b : ℕ) → between low high b ≡ false → (b < low) ⊎ (high < b)
outside low high b e =
    elim (cases_lt b low) [
      | inl lt ↦ inl lt
      | inr le ↦ elim (cases_lt high b) [
        | inl lt ↦ inr lt
        | inr ge ↦ absurd (differ (true-between low high b le ge) e)
      ]
    ]
  where
    differ : {b : Bool} → b ≡ true → b ≡ false → ⊥
    differ p q = cc
