-- A step of the reference run is one of what is meant at each index.
use Rattle.std.proofs.Common.{◌≡◌, ℕ, zero, suc, List, length, Option, Some, None, option_map, refl, sym, ap, subst, ◌∙◌}
use Rattle.std.specs.Prelude.{IsTrue, slice_get, option_and_then}
use Rattle.je_desc.specs.FieldType.{FieldType}
use Rattle.je_machine.specs.Value.{Kind, Value, zero_of, kind_of}
use Rattle.je_machine.specs.Classes.{Classes}
use Rattle.je_machine.specs.Action.{Action, Invoke, operands_of}
use Rattle.je_machine.specs.Acting.{act}
use Rattle.je_machine.specs.Acts.{GivesKind}
use Rattle.je_machine.specs.Operation.{Act, Operation, Do, Program}
use Rattle.je_machine.specs.Outside.{Response, Gave, Threw, Waits}
use Rattle.je_machine.specs.Frame.{stacked, frame_of, popped, push, under}
use Rattle.je_machine.specs.Step.{Step, Progress, Goes, Stops, advance, iterate}
use Rattle.je_machine.specs.Machine.{State, Outer, state_at, catcher}
use Rattle.je_shape.specs.Least.{Assignment}
use Rattle.je_fit.specs.Fits.{fits_known}
use Rattle.je_splice.specs.Marks.{doing_at, replaced}
use Rattle.je_splice.specs.Reference.{Reference, follow_meant, do_at}
use Rattle.je_splice.specs.Reference as meant
use Rattle.je_splice.specs.Sample.{meant_by}
use Rattle.je_stay.proofs.ReferenceLemmas.{nothing_fits}
use Rattle.je_calls.specs.declared.rule.Choice.{Choice}
use Rattle.je_calls.specs.declared.rule.Choice.TheVariants.{Stays, Drops, Gives}
use Rattle.je_calls.specs.declared.rule.Fragment.TheVariants.{Empty, Proceed}
use Rattle.je_calls.specs.declared.rule.Rule.{Rule}
use Rattle.je_calls.specs.Chosen.{choice_of, given, chosen_at}
use Rattle.je_calls.specs.Means.{after_action}
use Rattle.je_calls.specs.Method.{ArePlain}
use Rattle.je_calls.specs.RefRun.{after_fragment, step_at, take_reference, reference_step}
use Rattle.je_calls.proofs.CallLemmas.{Laws, IsPlainCall, HasCause, cause}
use Rattle.je_calls.proofs.FragmentLemmas.{fragment_by, meant_at}

-- what follows a fragment that proceeds is what follows the action, where this gives nothing
proceeds : (next : ℕ) (outer : Outer) (left : ℕ) (rest locals : List Value) (response : Response) → GivesKind None response
    → after_fragment next outer rest locals (after_action left response) ≡ follow_meant next outer (meant_by left locals (stacked rest response))
proceeds next outer left rest locals (Gave None after) gives = refl
proceeds next outer left rest locals (Gave (Some value) after) gives = absurd cc
proceeds next outer left rest locals (Threw reference after) gives = refl
proceeds next outer left rest locals (Waits after) gives = refl

module _ (laws : Laws) (classes : Classes) (program : Program) (x : Assignment) (rules : List Rule) (plain : ArePlain rules x program) where
  abbrev Same : ℕ → Outer → ℕ → State → Operation → Choice → Type 0
  Same next outer left s o choice = step_at classes next outer left (given choice) (Some o) s ≡ do_at classes next outer left (doing_at (fragment_by o choice) (Some o)) s

  call_empty : (next : ℕ) (outer : Outer) (left : ℕ) (s : State) (o : Operation) → IsPlainCall o → Same next outer left s o (Gives Empty)
  call_empty next outer left s o call =
      let action : Action = Invoke call.sort call.method call.types in
      let same : Same next outer left s (Do (Act action)) (Gives Empty) =
      ap (λ (r : Option FieldType). Goes left (state_at next (frame_of (push (option_map zero_of (option_map kind_of r)) (under (length (operands_of action)) s.frame.stack)) s.frame.locals) s.outside)) call.result
      ∙ ap (λ (ks : List Kind). Goes left (state_at next (frame_of (under (length ks) s.frame.stack) s.frame.locals) s.outside)) call.operands in
      subst (λ (p : Operation). Same next outer left s p (Gives Empty)) (sym call.is) same

  call_proceeds : (next : ℕ) (outer : Outer) (left : ℕ) (s : State) (o : Operation) → IsPlainCall o → Same next outer left s o (Gives Proceed)
  call_proceeds next outer left s o call =
      let action : Action = Invoke call.sort call.method call.types in
      let rest = under (length (operands_of action)) s.frame.stack in
      let response = act classes action (popped (length (operands_of action)) s.frame.stack) s.outside in
      let gives : GivesKind None response =
      subst (λ (r : Option FieldType). GivesKind (option_map kind_of r) response) call.result (laws.gives classes action (popped (length (operands_of action)) s.frame.stack) s.outside) in
      let same : Same next outer left s (Do (Act action)) (Gives Proceed) =
      ap (λ (r : Option FieldType). after_fragment next outer (push (option_map zero_of (option_map kind_of r)) rest) s.frame.locals (after_action left response)) call.result
      ∙ proceeds next outer left rest s.frame.locals response gives in
      subst (λ (p : Operation). Same next outer left s p (Gives Proceed)) (sym call.is) same

  by_choice : (next : ℕ) (outer : Outer) (left : ℕ) (s : State) (o : Operation) (choice : Choice) → HasCause o (x s.place) choice → IsTrue (fits_known (x s.place) s.frame) → Same next outer left s o choice
  by_choice next outer left s o Stays h fit = refl
  by_choice next outer left s o Drops h fit = absurd (nothing_fits (x s.place) s.frame h fit)
  by_choice next outer left s o (Gives Empty) h fit = call_empty next outer left s o h
  by_choice next outer left s o (Gives Proceed) h fit = call_proceeds next outer left s o h

  by_operation : (left : ℕ) (s : State) (o : Option Operation) → slice_get program.operations s.place ≡ o → IsTrue (fits_known (x s.place) s.frame)
      → step_at classes (suc s.place) (catcher program.handlers classes s.place) left (option_and_then (λ (p : Operation). given (choice_of rules (x s.place) p)) o) o s
      ≡ do_at classes (suc s.place) (catcher program.handlers classes s.place) left (doing_at (option_and_then (λ (p : Operation). fragment_by p (choice_of rules (x s.place) p)) o) o) s
  by_operation left s None there fit = refl
  by_operation left s (Some o) there fit =
      by_choice (suc s.place) (catcher program.handlers classes s.place) left s o (choice_of rules (x s.place) o) (cause rules o (x s.place) (plain s.place o there)) fit

  abbrev reference : Reference
  reference = replaced program (meant_at program x rules)

  same_take : (bound : ℕ) (s : State) → IsTrue (fits_known (x s.place) s.frame)
      → take_reference program classes (chosen_at program x rules) bound s ≡ meant.take_reference reference classes bound s
  same_take zero s fit = refl
  same_take (suc left) s fit = by_operation left s (slice_get program.operations s.place) refl fit

  abbrev old : Step State
  old = reference_step program classes (chosen_at program x rules)

  abbrev new : Step State
  new = meant.reference_step reference classes

  abbrev Kept : Type 0
  Kept = (bound left : ℕ) (s t : State) → IsTrue (fits_known (x s.place) s.frame) → meant.take_reference reference classes bound s ≡ Goes left t → IsTrue (fits_known (x t.place) t.frame)

  advanced : (turns : ℕ) (p : Progress State) → ((left : ℕ) (t : State) → p ≡ Goes left t → iterate old turns left t ≡ iterate new turns left t) → advance (iterate old turns) p ≡ advance (iterate new turns) p
  advanced turns (Goes left t) h = h left t refl
  advanced turns (Stops o) h = refl

  pub same_runs : Kept → (turns bound : ℕ) (s : State) → IsTrue (fits_known (x s.place) s.frame) → iterate old turns bound s ≡ iterate new turns bound s
  same_runs kept zero bound s fit = refl
  same_runs kept (suc turns) bound s fit =
      ap (advance (iterate old turns)) (same_take bound s fit)
      ∙ advanced turns (meant.take_reference reference classes bound s) (λ left t e. same_runs kept turns left t (kept bound left s t fit e))
