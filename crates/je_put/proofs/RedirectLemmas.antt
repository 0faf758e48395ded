-- Instructions whose targets are moved.
use Rattle.std.proofs.Common.{◌≡◌, ℕ, ◌<◌, List, [], ◌∷◌, map, refl, ap, ◌∙◌}
use Rattle.std.specs.List.{AllByRecursion}
use Rattle.je_instr.specs.declared.instr.Case.{Case}
use Rattle.je_instr.specs.declared.instr.Instr.{Instr}
use Rattle.je_instr.specs.declared.instr.Instr.TheVariants.{Branch, Goto, TableSwitch, LookupSwitch}
use Rattle.je_instr.specs.CodeProgram.{HasTargets}
use Rattle.je_splice.specs.InstrCodes.{redirected, redirected_case}
use Rattle.je_put.specs.declared.redirect.To.{To}
use Rattle.je_put.specs.Moving.{IsKnownTo, AreKnownTo}

all_imply : {A : Type 0} (P Q : A → Type 0) → ((x : A) → P x → Q x) → (xs : List A) → AllByRecursion P xs → AllByRecursion Q xs
all_imply P Q step [] all = tt
all_imply P Q step (x ∷ xs) all = (step x all.0, all_imply P Q step xs all.1)

pub known_targets : (to : To) (count : ℕ) → ((target : ℕ) → target < count → IsKnownTo to target) → (instr : Instr) → HasTargets count instr → AreKnownTo to instr
known_targets to count step (Branch opcode target) has = step target has
known_targets to count step (Goto target) has = step target has
known_targets to count step (TableSwitch low targets fallback) has =
    (all_imply (λ target. target < count) (IsKnownTo to) step targets has.0, step fallback has.1)
known_targets to count step (LookupSwitch cases fallback) has =
    (all_imply (λ (c : Case). c.target < count) (λ (c : Case). IsKnownTo to c.target) (λ c. step c.target) cases has.0, step fallback has.1)
known_targets to count step _ has = tt

-- each by two maps in a row
module _ (f to arrive : ℕ → ℕ) (count : ℕ) (same : (target : ℕ) → target < count → f target ≡ to (arrive target)) where
  targets_twice : (targets : List ℕ) → AllByRecursion (λ target. target < count) targets → map f targets ≡ map to (map arrive targets)
  targets_twice [] all = refl
  targets_twice (target ∷ targets) all =
      ap (λ (n : ℕ). n ∷ map f targets) (same target all.0) ∙ ap (λ l. to (arrive target) ∷ l) (targets_twice targets all.1)

  with_target : Case → ℕ → Case
  with_target c target = record { key = c.key; target = target }

  cases_twice : (cases : List Case) → AllByRecursion (λ (c : Case). c.target < count) cases
      → map (redirected_case f) cases ≡ map (redirected_case to) (map (redirected_case arrive) cases)
  unfolding with_target
  cases_twice [] all = refl
  cases_twice (c ∷ cases) all =
      ap (λ (n : ℕ). with_target c n ∷ map (redirected_case f) cases) (same c.target all.0)
      ∙ ap (λ l. redirected_case to (redirected_case arrive c) ∷ l) (cases_twice cases all.1)

  pub redirected_twice : (instr : Instr) → HasTargets count instr → redirected f instr ≡ redirected to (redirected arrive instr)
  redirected_twice (Branch opcode target) has = ap (λ (n : ℕ). Branch opcode n) (same target has)
  redirected_twice (Goto target) has = ap (λ (n : ℕ). Goto n) (same target has)
  redirected_twice (TableSwitch low targets fallback) has =
      ap (λ (l : List ℕ). TableSwitch low l (f fallback)) (targets_twice targets has.0)
      ∙ ap (λ (n : ℕ). TableSwitch low (map to (map arrive targets)) n) (same fallback has.1)
  redirected_twice (LookupSwitch cases fallback) has =
      ap (λ (l : List Case). LookupSwitch l (f fallback)) (cases_twice cases has.0)
      ∙ ap (λ (n : ℕ). LookupSwitch (map (redirected_case to) (map (redirected_case arrive) cases)) n) (same fallback has.1)
  redirected_twice _ has = refl
