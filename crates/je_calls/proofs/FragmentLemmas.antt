-- What stands in the place of instructions is what is meant in the place of their operations.
use Rattle.std.proofs.Common.{◌≡◌, ℕ, zero, suc, ◌+◌, List, [], ◌∷◌, Option, Some, None, Bool, false, option_map, refl, sym, ap, subst, ◌∙◌, arith}
use Rattle.std.specs.Prelude.{IsTrue, slice_get, option_and_then}
use Rattle.std.specs.List.{AllByRecursion, AllZip}
use Rattle.je_consts.specs.declared.place.Place.{Place}
use Rattle.je_machine.specs.Operation.{Operation, Do, Program}
use Rattle.je_instr.specs.declared.instr.Instr.{Instr}
use Rattle.je_instr.specs.Resolves.{Resolves}
use Rattle.je_shape.specs.Least.{Assignment}
use Rattle.je_splice.specs.Laid.{Fragment, FitsAnywhere}
use Rattle.je_splice.specs.Put.{PutAt, replacements}
use Rattle.je_splice.specs.Put as put
use Rattle.je_splice.specs.Resolved.{IsInstead}
use Rattle.je_splice.specs.Sample.{empty_fragment, proceed_fragment}
use Rattle.je_splice.proofs.BlockLemmas.{nothing_means, proceed_means}
use Rattle.je_put.specs.Placing.{piece_of, completes}
use Rattle.je_calls.specs.declared.rule.Choice.{Choice}
use Rattle.je_calls.specs.declared.rule.Choice.TheVariants.{Stays, Drops, Gives}
use Rattle.je_calls.specs.declared.rule.Fragment.TheVariants.{Empty, Proceed}
use Rattle.je_calls.specs.declared.rule.Rule.{Rule}
use Rattle.je_calls.specs.Blocks.{code_by, block_of, blocks_of}
use Rattle.je_calls.specs.Chosen.{is_reached, choice_of, choices_from, IsReplaceable}
use Rattle.je_calls.proofs.CallLemmas.{IsPlainCall, HasCause, cause}

-- what is meant in the place of an operation, and the block that does it
abbrev pub fragment_by : Operation → Choice → Option Fragment
fragment_by o Stays = None
fragment_by o Drops = Some empty_fragment
fragment_by o (Gives Empty) = Some empty_fragment
fragment_by (Do basic) (Gives Proceed) = Some (proceed_fragment basic)
fragment_by _ (Gives Proceed) = None

abbrev pub fragments_of : List Operation → List Choice → List (Option Fragment)
fragments_of [] choices = []
fragments_of (o ∷ os) [] = []
fragments_of (o ∷ os) (choice ∷ choices) = fragment_by o choice ∷ fragments_of os choices

-- none leads on, so that there is no jump behind any
abbrev pub none_leads : Fragment → Bool
none_leads fragment = false

-- ---- blocks and fragments

abbrev pub GivesCall : Operation → Choice → Type 0
GivesCall o (Gives fragment) = IsPlainCall o
GivesCall o _ = Unit {0}

abbrev IsAlike : List Place → Instr → Operation → Choice → Type 0
IsAlike consts i o choice = IsInstead consts piece_of (λ (f : Fragment). f) completes none_leads (option_map block_of (code_by i choice)) (fragment_by o choice)

alike : (consts : List Place) (i : Instr) (o : Operation) (choice : Choice) → Resolves consts i o → GivesCall o choice → IsAlike consts i o choice
alike consts i o Stays r call = tt
alike consts i o Drops r call = (record { code = tt; handlers = tt }, refl)
alike consts i o (Gives Empty) r call = (record { code = tt; handlers = tt }, refl)
alike consts i o (Gives Proceed) r call =
    subst (λ (p : Operation). Resolves consts i p → IsAlike consts i p (Gives Proceed)) (sym call.is) (λ s. (record { code = (s, tt); handlers = tt }, refl)) r

pub all_alike : (consts : List Place) (is : List Instr) (os : List Operation) (choices : List Choice) → AllZip (Resolves consts) is os → AllZip GivesCall os choices
    → AllZip (IsInstead consts piece_of (λ (f : Fragment). f) completes none_leads) (blocks_of is choices) (fragments_of os choices)
all_alike consts [] [] choices r calls = tt
all_alike consts [] (o ∷ os) choices r calls = absurd r
all_alike consts (i ∷ is) [] choices r calls = absurd r
all_alike consts (i ∷ is) (o ∷ os) [] r calls = absurd calls
all_alike consts (i ∷ is) (o ∷ os) (choice ∷ choices) r calls = (alike consts i o choice r.0 calls.0, all_alike consts is os choices r.1 calls.1)

-- ---- the blocks do what is meant, with any frame

pub empty_fits : (limit : ℕ) → FitsAnywhere limit empty_fragment
empty_fits limit = record { means = λ ok. nothing_means limit ok; within = tt }

abbrev FitsSome : ℕ → Option Fragment → Type 0
FitsSome limit None = Unit {0}
FitsSome limit (Some f) = FitsAnywhere limit f

fits_some : (limit : ℕ) (o : Operation) (choice : Choice) → FitsSome limit (fragment_by o choice)
fits_some limit o Stays = tt
fits_some limit o Drops = empty_fits limit
fits_some limit o (Gives Empty) = empty_fits limit
fits_some limit (Do basic) (Gives Proceed) = record { means = λ ok. proceed_means limit ok basic; within = tt }
fits_some limit _ (Gives Proceed) = tt

put_fits : (limit : ℕ) (f : Option Fragment) (at : ℕ) (fs : List (Option Fragment)) → FitsSome limit f → AllByRecursion (λ (p : PutAt Fragment). FitsAnywhere limit p.piece) (replacements (suc at) fs)
    → AllByRecursion (λ (p : PutAt Fragment). FitsAnywhere limit p.piece) (replacements at (f ∷ fs))
put_fits limit None at fs h k = k
put_fits limit (Some f) at fs h k = (h, k)

pub all_fit : (limit : ℕ) (at : ℕ) (os : List Operation) (choices : List Choice) → AllByRecursion (λ (p : PutAt Fragment). FitsAnywhere limit p.piece) (replacements at (fragments_of os choices))
all_fit limit at [] choices = tt
all_fit limit at (o ∷ os) [] = tt
all_fit limit at (o ∷ os) (choice ∷ choices) = put_fits limit (fragment_by o choice) at (fragments_of os choices) (fits_some limit o choice) (all_fit limit (suc at) os choices)

-- ---- what becomes of each instruction

gives_call : (o : Operation) (rules : List Rule) (x : Assignment) (at : ℕ) (choice : Choice) → HasCause o (x at) choice → GivesCall o choice
gives_call o rules x at Stays h = tt
gives_call o rules x at Drops h = tt
gives_call o rules x at (Gives fragment) h = h

pub all_calls : (rules : List Rule) (x : Assignment) (at : ℕ) (os : List Operation)
    → ((k : ℕ) (o : Operation) → slice_get os k ≡ Some o → IsTrue (is_reached (x (at + k))) → IsReplaceable rules o) → AllZip GivesCall os (choices_from rules x at os)
all_calls rules x at [] h = tt
all_calls rules x at (o ∷ os) h = (
  (let none : at ≡ at + 0 = omega arith in
      gives_call o rules x at (choice_of rules (x at) o) (cause rules o (x at) (subst (λ (n : ℕ). IsTrue (is_reached (x n)) → IsReplaceable rules o) (sym none) (h 0 o refl)))),
  all_calls rules x (suc at) os
      (λ k p there. (let next : suc at + k ≡ at + suc k = omega arith in subst (λ (n : ℕ). IsTrue (is_reached (x n)) → IsReplaceable rules p) (sym next) (h (suc k) p there))),
)

-- ---- what is meant at each index

abbrev pub meant_at : Program → Assignment → List Rule → ℕ → Option Fragment
meant_at program x rules i = option_and_then (λ (o : Operation). fragment_by o (choice_of rules (x i) o)) (slice_get program.operations i)

found_from : (rules : List Rule) (x : Assignment) (at k : ℕ) (os : List Operation)
    → put.chosen_at (fragments_of os (choices_from rules x at os)) k ≡ option_and_then (λ (o : Operation). fragment_by o (choice_of rules (x (at + k)) o)) (slice_get os k)
found_from rules x at k [] = refl
found_from rules x at zero (o ∷ os) =
    let none : at ≡ at + 0 = omega arith in
    ap (λ (n : ℕ). fragment_by o (choice_of rules (x n) o)) none
found_from rules x at (suc k) (o ∷ os) =
    let next : suc at + k ≡ at + suc k = omega arith in
    found_from rules x (suc at) k os ∙ ap (λ (n : ℕ). option_and_then (λ (o : Operation). fragment_by o (choice_of rules (x n) o)) (slice_get os k)) next

pub found_there : (program : Program) (x : Assignment) (rules : List Rule) (i : ℕ)
    → put.chosen_at (fragments_of program.operations (choices_from rules x 0 program.operations)) i ≡ meant_at program x rules i
found_there program x rules i =
    let none : 0 + i ≡ i = omega arith in
    found_from rules x 0 i program.operations ∙ ap (λ (n : ℕ). option_and_then (λ (o : Operation). fragment_by o (choice_of rules (x n) o)) (slice_get program.operations i)) none
