-- The targets of instructions, and of the operations that they are.
use Rattle.std.proofs.Common.{◌≡◌, ℕ, suc, ◌<◌, List, [], ◌∷◌, length, map, Option, Some, None, option_map, refl, ap, subst}
use Rattle.std.specs.Prelude.{ℤ, pos, ◌+ℤ◌}
use Rattle.std.specs.List.{AllByRecursion}
use Rattle.je_consts.specs.declared.place.Place.{Place}
use Rattle.je_machine.specs.Operation.{Operation, Branch}
use Rattle.je_instr.specs.declared.instr.Case.{Case}
use Rattle.je_instr.specs.declared.instr.Instr.{Instr}
use Rattle.je_instr.specs.declared.instr.Instr.TheVariants as instr
use Rattle.je_instr.specs.Allowed.{AreKeys, AreRising}
use Rattle.je_instr.specs.Assembling.{IsInRange}
use Rattle.je_instr.specs.CodeProgram.{HasTargets}
use Rattle.je_instr.specs.Opcodes.{beside, conditions}
use Rattle.je_instr.specs.Resolves.{table_cases, lookup_cases, Becomes}
use Rattle.je_splice.specs.InstrCodes.{redirected_case, redirected}
use Rattle.je_shape.specs.Least.{targets_of}
use Rattle.je_calls.specs.Chosen.{IsPlain}
use Rattle.je_calls.proofs.FlowLemmas.{each_is_both}

-- each target of the instruction is so
abbrev pub EachTarget : (ℕ → Type 0) → Instr → Type 0
EachTarget Q (instr.Branch opcode target) = Q target
EachTarget Q (instr.Goto target) = Q target
EachTarget Q (instr.TableSwitch low targets fallback) = AllByRecursion Q targets × Q fallback
EachTarget Q (instr.LookupSwitch cases fallback) = AllByRecursion (λ (c : Case). Q c.target) cases × Q fallback
EachTarget Q _ = Unit {0}

made : {A B : Type 0} (make : A → B) (Q : B → Type 0) (G : Type 0) (m : Option A) (b : B) → ((a : A) → Q (make a) → G) → Q b → option_map make m ≡ Some b → G
made make Q G None b f h e = absurd cc
made make Q G (Some a) b f h e = let same : b ≡ make a = cc in f a (subst Q same h)

module _ (Q : ℕ → Type 0) where
  of_table : (low : ℤ) (targets : List ℕ) → AllByRecursion Q (map (λ (c : ℤ × ℕ). c.1) (table_cases low targets)) → AllByRecursion Q targets
  of_table low [] h = tt
  of_table low (to ∷ targets) h = (h.0, of_table (low +ℤ pos 1) targets h.1)

  of_lookup : (cases : List Case) → AllByRecursion Q (map (λ (c : ℤ × ℕ). c.1) (lookup_cases cases)) → AllByRecursion (λ (c : Case). Q c.target) cases
  of_lookup [] h = tt
  of_lookup (c ∷ cases) h = (h.0, of_lookup cases h.1)

  abbrev Of : Operation → Type 0
  Of o = AllByRecursion Q (targets_of o)

  -- those of the operation are those of the instruction
  pub targets_back : (consts : List Place) (a : Instr) (o : Operation) → Becomes consts a o → Of o → EachTarget Q a
  targets_back consts (instr.Branch opcode target) o b h =
      made (λ condition. Branch condition target) Of (Q target) (beside conditions opcode) o (λ condition k. k.0) h b
  targets_back consts (instr.Goto target) o b h = let k = subst Of b h in k.0
  targets_back consts (instr.TableSwitch low targets fallback) o b h = let k = subst Of b h in (of_table low targets k.1, k.0)
  targets_back consts (instr.LookupSwitch cases fallback) o b h = let k = subst Of b h in (of_lookup cases k.1, k.0)
  targets_back consts _ o b h = tt

  -- an action has none
  pub plain_back : (consts : List Place) (a : Instr) (o : Operation) → Becomes consts a o → IsPlain o → EachTarget Q a
  plain_back consts (instr.Branch opcode target) o b h =
      made (λ condition. Branch condition target) IsPlain (Q target) (beside conditions opcode) o (λ condition k. absurd k) h b
  plain_back consts (instr.Goto target) o b h = let k = subst IsPlain b h in absurd k
  plain_back consts (instr.TableSwitch low targets fallback) o b h = let k = subst IsPlain b h in absurd k
  plain_back consts (instr.LookupSwitch cases fallback) o b h = let k = subst IsPlain b h in absurd k
  plain_back consts _ o b h = tt

-- ---- under a map

module _ (Q R : ℕ → Type 0) (to : ℕ → ℕ) (each : (n : ℕ) → Q n → R (to n)) where
  list_moved : (targets : List ℕ) → AllByRecursion Q targets → AllByRecursion R (map to targets)
  list_moved [] h = tt
  list_moved (n ∷ targets) h = (each n h.0, list_moved targets h.1)

  cases_moved : (cases : List Case) → AllByRecursion (λ (c : Case). Q c.target) cases → AllByRecursion (λ (c : Case). R c.target) (map (redirected_case to) cases)
  cases_moved [] h = tt
  cases_moved (c ∷ cases) h = (each c.target h.0, cases_moved cases h.1)

  pub targets_moved : (a : Instr) → EachTarget Q a → EachTarget R (redirected to a)
  targets_moved (instr.Branch opcode target) h = each target h
  targets_moved (instr.Goto target) h = each target h
  targets_moved (instr.TableSwitch low targets fallback) h = (list_moved targets h.0, each fallback h.1)
  targets_moved (instr.LookupSwitch cases fallback) h = (cases_moved cases h.0, each fallback h.1)
  targets_moved _ h = tt

pub targets_both : (P Q R : ℕ → Type 0) → ((n : ℕ) → P n → Q n → R n) → (a : Instr) → EachTarget P a → EachTarget Q a → EachTarget R a
targets_both P Q R f (instr.Branch opcode target) h k = f target h k
targets_both P Q R f (instr.Goto target) h k = f target h k
targets_both P Q R f (instr.TableSwitch low targets fallback) h k = (each_is_both P Q R f targets h.0 k.0, f fallback h.1 k.1)
targets_both P Q R f (instr.LookupSwitch cases fallback) h k =
    (each_is_both (λ (c : Case). P c.target) (λ (c : Case). Q c.target) (λ (c : Case). R c.target) (λ c. f c.target) cases h.0 k.0, f fallback h.1 k.1)
targets_both P Q R f _ h k = tt

pub has_each : (count : ℕ) (a : Instr) → HasTargets count a → EachTarget (λ n. n < count) a
has_each count (instr.Branch opcode target) h = h
has_each count (instr.Goto target) h = h
has_each count (instr.TableSwitch low targets fallback) h = h
has_each count (instr.LookupSwitch cases fallback) h = h
has_each count _ h = tt

pub each_has : (count : ℕ) (a : Instr) → EachTarget (λ n. n < count) a → HasTargets count a
each_has count (instr.Branch opcode target) h = h
each_has count (instr.Goto target) h = h
each_has count (instr.TableSwitch low targets fallback) h = h
each_has count (instr.LookupSwitch cases fallback) h = h
each_has count _ h = tt

-- ---- operands

rising : (to : ℕ → ℕ) (cases : List Case) → AreRising cases → AreRising (map (redirected_case to) cases)
rising to [] h = tt
rising to (c ∷ []) h = tt
rising to (c ∷ d ∷ cases) h = (h.0, rising to (d ∷ cases) h.1)

as_long : (to : ℕ → ℕ) (targets : List ℕ) → length targets ≡ length (map to targets)
as_long to [] = refl
as_long to (n ∷ targets) = ap suc (as_long to targets)

pub range_moved : (to : ℕ → ℕ) (a : Instr) → IsInRange a → IsInRange (redirected to a)
range_moved to (instr.TableSwitch low targets fallback) h = subst (λ (n : ℕ). AreKeys low n) (as_long to targets) h
range_moved to (instr.LookupSwitch cases fallback) h = rising to cases h
range_moved to _ h = h
