-- Targets and cases are read one after the other.
use Rattle.std.proofs.Common.{◌≡◌, ℕ, suc, ◌+◌, ◌-◌, ◌<◌, List, [], ◌∷◌, ◌++◌, sym, ap, ◌∙◌}
use Rattle.std.proofs.Common.{append_assoc, arith}
use Rattle.je_instr.specs.declared.instr.Case.{Case}
use Rattle.je_instr.specs.Forms.{far, targets_at, case_at, cases_at}

-- what is read and what is left are all; the first of what is left goes to the others
moved : {A : Type 0} (got : List A) (x : A) (rest all : List A) → got ++ x ∷ rest ≡ all → (got ++ x ∷ []) ++ rest ≡ all
moved got x rest all e = append_assoc got (x ∷ []) rest ∙ e

module _ (code : List ℕ) (at : ℕ) where
  targets_of : (from left n : ℕ) (got all : List ℕ) → left ≡ suc n → got ++ targets_at code at from left ≡ all → (got ++ far code at from ∷ []) ++ targets_at code at (from + 4) n ≡ all
  targets_of from left n got all e h = moved got (far code at from) (targets_at code at (from + 4) n) all (ap (λ (k : ℕ). got ++ targets_at code at from k) (sym e) ∙ h)

  pub targets_step : (from count counter : ℕ) (got all : List ℕ) → counter < count → got ++ targets_at code at from (count - counter) ≡ all
      → (got ++ far code at from ∷ []) ++ targets_at code at (from + 4) (count - (counter + 1)) ≡ all
  targets_step from count counter got all lt h = targets_of from (count - counter) (count - (counter + 1)) got all (omega arith) h

  cases_of : (from left n : ℕ) (got all : List Case) → left ≡ suc n → got ++ cases_at code at from left ≡ all → (got ++ case_at code at from ∷ []) ++ cases_at code at (from + 8) n ≡ all
  cases_of from left n got all e h = moved got (case_at code at from) (cases_at code at (from + 8) n) all (ap (λ (k : ℕ). got ++ cases_at code at from k) (sym e) ∙ h)

  pub cases_step : (from count counter : ℕ) (got all : List Case) → counter < count → got ++ cases_at code at from (count - counter) ≡ all
      → (got ++ case_at code at from ∷ []) ++ cases_at code at (from + 8) (count - (counter + 1)) ≡ all
  cases_step from count counter got all lt h = cases_of from (count - counter) (count - (counter + 1)) got all (omega arith) h
