-- Code units are modified UTF-8.
use Rattle.std.specs.Prelude.{Option, Some, None, IfNone, IsSome, take}
use Rattle.std.proofs.Common.{◌≡◌, ℕ, zero, suc, ◌+◌, ◌/◌, ◌%◌, ◌^◌, ◌<◌, ◌≤◌, inl, inr, ◌⊎◌, List, [], ◌∷◌, ◌++◌, refl, ap, length, get_or, arith}
use Rattle.std.proofs.lemmas.Bool.Decides.{nat_tests}
use Rattle.std.proofs.lemmas.Bool.{cases_lt}
use Rattle.je_base.specs.Text.{IsUnit, IsModifiedUtf8}
use Rattle.je_base.specs.Encoding.{unit}
use Rattle.je_tokens.specs.Characters.{text_of_units}

unit_one : (u : ℕ) → 0 < u → u < 0x80 → unit u ≡ u ∷ []
unit_one u from below = grind (arith, nat_tests)

unit_two : (u : ℕ) → u < 0x800 → (u ≡ 0) ⊎ (0x80 ≤ u) → unit u ≡ (0xc0 + u / 0x40) ∷ (0x80 + u % 0x40) ∷ []
unit_two u below h = grind (arith, nat_tests)

unit_three : (u : ℕ) → 0x800 ≤ u → unit u ≡ (0xe0 + u / 0x1000) ∷ (0x80 + u / 0x40 % 0x40) ∷ (0x80 + u % 0x40) ∷ []
unit_three u from = grind (arith, nat_tests)

IsUnit-unit : (u : ℕ) → u < 2 ^ 16 → IsUnit (unit u)
IsUnit-unit u h = elim (cases_lt u 0x80) [
  | inl one ↦ elim (cases_lt 0 u) [
    | inl from ↦ rw (unit_one u from one) (omega arith, omega arith)
    | inr nought ↦ rw (unit_two u (omega arith) (inl (omega arith))) ((omega arith, omega arith), (omega arith, omega arith))
  ]
  | inr more ↦ elim (cases_lt u 0x800) [
    | inl two ↦ rw (unit_two u two (inr more)) ((omega arith, omega arith), (omega arith, omega arith))
    | inr three ↦ rw (unit_three u three) ((omega arith, omega arith), (omega arith, omega arith), (omega arith, omega arith))
  ]
]

pub IsModifiedUtf8-units : (units : List ℕ) → ((k : ℕ) → get_or units k 0 < 2 ^ 16) → IsModifiedUtf8 (text_of_units units)
IsModifiedUtf8-units [] h = ([], tt, refl)
IsModifiedUtf8-units (u ∷ units) h =
    let more = IsModifiedUtf8-units units (λ k. h (suc k)) in
    (unit u ∷ more.0, (IsUnit-unit u (h 0), more.1), ap (λ (bs : List ℕ). unit u ++ bs) more.2)

pub some_unless : {A P : Type 0} (found : Option A) → IfNone found (P → ⊥) → P → IsSome found
some_unless None none p = absurd (none p)
some_unless (Some x) none p = refl

pub take_all : (n : ℕ) (xs : List ℕ) → length xs ≤ n → take n xs ≡ xs
take_all zero [] h = refl
take_all zero (x ∷ xs) h = absurd (omega arith)
take_all (suc n) [] h = refl
take_all (suc n) (x ∷ xs) h = ap (λ (ys : List ℕ). x ∷ ys) (take_all n xs (omega arith))
