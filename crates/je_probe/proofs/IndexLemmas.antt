-- A search among indexes.
use Rattle.std.proofs.Common.{◌≡◌, ℕ, ◌+◌, ◌<◌, Bool, false, subst, arith}
use Rattle.std.specs.Prelude.{◌⊎◌, IsTrue}
use Rattle.std.proofs.lemmas.Bool.{cases_order, both_ways}
use mathlib.Core.Logic.{inl, inr}

module _ (P : ℕ → Type 0) (at : ℕ) (before : (i : ℕ) → 0 < i → i < at → P i → ⊥) where
  at_most : (P at → ⊥) → (i : ℕ) → 0 < i → i < at + 1 → (i ≡ at) ⊎ ((i < at) ⊎ (at < i)) → P i → ⊥
  at_most not i low h (inl e) p = not (subst P e p)
  at_most not i low h (inr (inl less)) p = before i low less p
  at_most not i low h (inr (inr more)) p = absurd (omega (arith, h, more))

  -- one more at which it is not
  pub one_more : (said : Bool) → (IsTrue said → P at) × (P at → IsTrue said) → said ≡ false
      → (i : ℕ) → 0 < i → i < at + 1 → P i → ⊥
  one_more said both untrue i low h p =
      at_most (λ q. both_ways said untrue (both.1 q)) i low h (cases_order i at) p
