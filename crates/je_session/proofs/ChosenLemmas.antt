-- What the rules choose for instructions and for what these do.
use Rattle.std.proofs.Common.{◌≡◌, ℕ, zero, suc, ◌+◌, ◌<◌, List, [], ◌∷◌, ◌++◌, length, take, get_or, Option, Some, None, refl, sym, ap, ◌∙◌, arith}
use Rattle.std.specs.Prelude.{Bool, false, map}
use Rattle.std.specs.List.{AllByRecursion, find}
use Rattle.std.specs.Option.{option_map}
use Rattle.std.proofs.lemmas.List.{take_more, map-append}
use Rattle.std.proofs.lemmas.Slice.Zip.{all_zipped_more}
use Rattle.je_consts.specs.declared.place.Place.{Place}
use Rattle.je_machine.specs.Action.{Action}
use Rattle.je_machine.specs.Operation.{Nop, Push, Drop, Copy, Swap, Act, Throw, Operation, Do, Load, Store, Increment, Branch, Goto, Switch, Return}
use Rattle.je_instr.specs.declared.instr.Instr.{Instr}
use Rattle.je_instr.specs.Resolves.{Resolves}
use Rattle.je_session.specs.declared.plan.Fragment.{Fragment}
use Rattle.je_session.specs.declared.plan.Rule.{Rule}
use Rattle.je_session.specs.Chosen.{fits}
use Rattle.je_session.specs.Kept.{IsSoFar}
use Rattle.je_session.specs.Splice.{chosen_fragment, AreChosen}

find-never : {A : Type 0} (test : A → Bool) → ((x : A) → test x ≡ false) → (xs : List A) → find test xs ≡ None
find-never test never [] = refl
find-never test never (x ∷ xs) = rw (never x) (find-never test never xs)

-- what fits no rule is not chosen
unfit : (operation : Operation) → ((rule : Rule) → fits operation rule ≡ false) → (rules : List Rule) → chosen_fragment rules operation ≡ None
unfit operation never rules = ap (option_map (λ (rule : Rule). rule.fragment)) (find-never (fits operation) never rules)

-- no rule chooses what is no call
pub chosen_fragment-Nop : (rules : List Rule) → chosen_fragment rules (Do Nop) ≡ None
chosen_fragment-Nop rules = unfit (Do Nop) (λ rule. refl) rules

pub chosen_fragment-Return : (rules : List Rule) → chosen_fragment rules (Return None) ≡ None
chosen_fragment-Return rules = unfit (Return None) (λ rule. refl) rules

-- what is chosen acts
abbrev pub Acts : Operation → Type 0
Acts operation = (action : Action) × (operation ≡ Do (Act action))

never : (operation : Operation) (rules : List Rule) (fragment : Fragment) → ((rule : Rule) → fits operation rule ≡ false) → chosen_fragment rules operation ≡ Some fragment → Acts operation
never operation rules fragment is chosen = let none = unfit operation is rules in absurd cc

pub chosen_acts : (operation : Operation) (rules : List Rule) (fragment : Fragment) → chosen_fragment rules operation ≡ Some fragment → Acts operation
chosen_acts (Do Nop) rules fragment chosen = never (Do Nop) rules fragment (λ rule. refl) chosen
chosen_acts (Do (Push value)) rules fragment chosen = never (Do (Push value)) rules fragment (λ rule. refl) chosen
chosen_acts (Do (Drop places)) rules fragment chosen = never (Do (Drop places)) rules fragment (λ rule. refl) chosen
chosen_acts (Do (Copy places deep)) rules fragment chosen = never (Do (Copy places deep)) rules fragment (λ rule. refl) chosen
chosen_acts (Do Swap) rules fragment chosen = never (Do Swap) rules fragment (λ rule. refl) chosen
chosen_acts (Do (Act action)) rules fragment chosen = (action, refl)
chosen_acts (Do Throw) rules fragment chosen = never (Do Throw) rules fragment (λ rule. refl) chosen
chosen_acts (Load kind slot) rules fragment chosen = never (Load kind slot) rules fragment (λ rule. refl) chosen
chosen_acts (Store kind slot) rules fragment chosen = never (Store kind slot) rules fragment (λ rule. refl) chosen
chosen_acts (Increment slot by) rules fragment chosen = never (Increment slot by) rules fragment (λ rule. refl) chosen
chosen_acts (Branch condition target) rules fragment chosen = never (Branch condition target) rules fragment (λ rule. refl) chosen
chosen_acts (Goto target) rules fragment chosen = never (Goto target) rules fragment (λ rule. refl) chosen
chosen_acts (Switch cases fallback) rules fragment chosen = never (Switch cases fallback) rules fragment (λ rule. refl) chosen
chosen_acts (Return kind) rules fragment chosen = never (Return kind) rules fragment (λ rule. refl) chosen

-- ---- one more instruction

pub all_more : {A : Type 0} (P : A → Type 0) (xs : List A) (x : A) → AllByRecursion P xs → P x → AllByRecursion P (xs ++ x ∷ [])
all_more P [] x all last = (last, tt)
all_more P (y ∷ xs) x all last = (all.0, all_more P xs x all.1 last)

-- one more instruction, of which an operation is known
pub AreChosen-more : (consts : List Place) (rules : List Rule) (instrs : List Instr) (i : ℕ) (d : Instr) (chosen : List (Option Fragment)) (choice : Option Fragment)
    → AreChosen consts rules (take i instrs) chosen → i < length instrs
    → (operation : Operation) → Resolves consts (get_or instrs i d) operation → IsSoFar consts (get_or instrs i d) → choice ≡ chosen_fragment rules operation
    → AreChosen consts rules (take (i + 1) instrs) (chosen ++ choice ∷ [])
AreChosen-more consts rules instrs i d chosen choice before within operation resolves so_far choice_is =
    rw (take_more instrs i d within) (record {
      operations = before.operations ++ operation ∷ [];
      resolved = all_zipped_more (Resolves consts) (take i instrs) before.operations (get_or instrs i d) operation before.resolved resolves;
      so_far = all_more (IsSoFar consts) (take i instrs) (get_or instrs i d) before.so_far so_far;
      chosen_is =
          ap (λ (l : List (Option Fragment)). l ++ choice ∷ []) before.chosen_is
          ∙ ap (λ (c : Option Fragment). map (chosen_fragment rules) before.operations ++ c ∷ []) choice_is
          ∙ sym (map-append (chosen_fragment rules) before.operations (operation ∷ []));
    })

-- what holds of all holds of the one at an index
pub all_at : {A : Type 0} (P : A → Type 0) (xs : List A) (i : ℕ) (d : A) → AllByRecursion P xs → i < length xs → P (get_or xs i d)
all_at P [] i d all within = absurd (omega arith)
all_at P (x ∷ xs) zero d all within = all.0
all_at P (x ∷ xs) (suc i) d all within = all_at P xs i d all.1 (omega arith)
