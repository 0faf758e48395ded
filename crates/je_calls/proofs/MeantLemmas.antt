-- What is meant at each index keeps to the shapes.
use Rattle.std.proofs.Common.{◌≡◌, ℕ, zero, suc, ◌≤◌, ◌<◌, inl, inr, List, [], ◌∷◌, length, Option, Some, None, refl, sym, subst, arith}
use Rattle.std.specs.Prelude.{IsTrue, IfSome, slice_get, option_and_then}
use Rattle.je_machine.specs.Value.{Kind, Value}
use Rattle.je_machine.specs.Action.{Invoke}
use Rattle.je_machine.specs.Operation.{Basic, Act, Operation, Do}
use Rattle.je_machine.specs.Frame.{Frame, Stacked, Stands, Breaks, Stalls, flow_of, perform, perform_basic}
use Rattle.je_machine.specs.Machine.{Outer}
use Rattle.je_shape.specs.Shape.{Known}
use Rattle.je_shape.specs.Least.{Method, Assignment}
use Rattle.je_fit.specs.Fits.{fits_known}
use Rattle.je_fit.specs.Sound.{IsSound}
use Rattle.je_splice.specs.Laid.{Fragment}
use Rattle.je_splice.specs.Marks.{doing_at, replaced}
use Rattle.je_splice.specs.Reference.{Doing, Performs, Means, Reference}
use Rattle.je_splice.specs.Sample.{nothing, proceeding, meant_by}
use Rattle.je_stay.specs.Keeping.{PerformKeeps, MeantKeeps, IsShaped}
use Rattle.je_stay.specs.Marked.{KeepsAt, thrown_from}
use Rattle.je_stay.proofs.ReferenceLemmas.{nothing_fits, less_or_not}
use Rattle.je_calls.specs.declared.rule.Choice.{Choice}
use Rattle.je_calls.specs.declared.rule.Choice.TheVariants.{Stays, Drops, Gives}
use Rattle.je_calls.specs.declared.rule.Fragment.TheVariants.{Empty, Proceed}
use Rattle.je_calls.specs.declared.rule.Rule.{Rule}
use Rattle.je_calls.specs.Chosen.{choice_of}
use Rattle.je_calls.specs.Method.{ArePlain}
use Rattle.je_calls.proofs.CallLemmas.{Laws, IsPlainCall, HasCause, cause, answering, call_falls}
use Rattle.je_calls.proofs.FragmentLemmas.{fragment_by, meant_at}

-- what a basic operation keeps, its meaning keeps
kept_by : (kind : Option (Option Kind)) (x : Assignment) (next : Known) (outer : Outer) (bound : ℕ) (locals : List Value) (s : Stacked) → PerformKeeps kind x next outer locals (flow_of locals s)
    → MeantKeeps kind x next outer (meant_by bound locals s)
kept_by kind x next outer bound locals (Stands stack outside) h = h
kept_by kind x next outer bound locals (Breaks reference outside) h = h
kept_by kind x next outer bound locals (Stalls outside) h = tt

past : {A : Type 0} (xs : List A) (k : ℕ) → slice_get xs k ≡ None → length xs ≤ k
past [] k e = omega arith
past (a ∷ xs) zero e = absurd cc
past (a ∷ xs) (suc k) e = let h = past xs k e in omega (arith, h)

module _ (laws : Laws) (m : Method) (x : Assignment) (rules : List Rule) (sound : IsSound m x)
    (stays : (at : ℕ) (o : Operation) → slice_get m.program.operations at ≡ Some o → KeepsAt m x at (x (suc at)) (Performs o)) (plain : ArePlain rules x m.program) where
  -- at a call that is answered by a value the next index has the frame too
  call_keeps : (at : ℕ) (o : Operation) → IsPlainCall o → slice_get m.program.operations at ≡ Some o → KeepsAt m x at (x (suc at)) (Means nothing)
  call_keeps at o call there = λ classes bound frame outside fit.
      let falls = call_falls laws classes call.sort call.method call.types frame outside.heap call.operands call.result in
      let keeps : PerformKeeps m.result x (x (suc at)) (thrown_from m at classes) frame.locals (perform classes (Do (Act (Invoke call.sort call.method call.types))) frame (answering outside.heap)) =
      subst (λ (p : Operation). PerformKeeps m.result x (x (suc at)) (thrown_from m at classes) frame.locals (perform classes p frame (answering outside.heap))) call.is
      (stays at o there classes frame (answering outside.heap) fit) in
      subst (PerformKeeps m.result x (x (suc at)) (thrown_from m at classes) frame.locals) falls.1 keeps

  basic_keeps : (at : ℕ) (basic : Basic) → slice_get m.program.operations at ≡ Some (Do basic) → KeepsAt m x at (x (suc at)) (Means (proceeding basic))
  basic_keeps at basic there = λ classes bound frame outside fit.
      kept_by m.result x (x (suc at)) (thrown_from m at classes) bound frame.locals (perform_basic classes basic frame.stack outside) (stays at (Do basic) there classes frame outside fit)

  abbrev EachKeeps : ℕ → Option Doing → Type 0
  EachKeeps at doing = IfSome doing (λ d. KeepsAt m x at (x (suc at)) d)

  by_choice : (at : ℕ) (o : Operation) (choice : Choice) → slice_get m.program.operations at ≡ Some o → HasCause o (x at) choice → EachKeeps at (doing_at (fragment_by o choice) (Some o))
  by_choice at o Stays there h = stays at o there
  by_choice at o Drops there h = λ classes bound frame outside fit. absurd (nothing_fits (x at) frame h fit)
  by_choice at o (Gives Empty) there h = call_keeps at o h there
  by_choice at o (Gives Proceed) there h =
      subst (λ (p : Operation). slice_get m.program.operations at ≡ Some p → EachKeeps at (doing_at (fragment_by p (Gives Proceed)) (Some p))) (sym h.is)
      (λ here. basic_keeps at (Act (Invoke h.sort h.method h.types)) here) there

  by_operation : (at : ℕ) (o : Option Operation) → slice_get m.program.operations at ≡ o
      → EachKeeps at (doing_at (option_and_then (λ (p : Operation). fragment_by p (choice_of rules (x at) p)) o) o)
  by_operation at None there = tt
  by_operation at (Some o) there = by_choice at o (choice_of rules (x at) o) there (cause rules o (x at) (plain at o there))

  abbrev pub reference : Reference
  reference = replaced m.program (meant_at m.program x rules)

  each_keeps : (at : ℕ) → EachKeeps at (reference.doing at)
  each_keeps at = by_operation at (slice_get m.program.operations at) refl

  some_done : (f : Option Fragment) (o : Operation) → doing_at f (Some o) ≡ None → ⊥
  some_done None o e = absurd cc
  some_done (Some f) o e = absurd cc

  none_done : (f : Option Fragment) (o : Option Operation) → doing_at f o ≡ None → o ≡ None
  none_done f None e = refl
  none_done f (Some o) e = absurd (some_done f o e)

  pub shaped : IsShaped m.result x reference
  shaped = record {
    each = λ at doing e. subst (EachKeeps at) e (each_keeps at);
    inside = λ at e. sound.behind at (past m.program.operations at (none_done (meant_at m.program x rules at) (slice_get m.program.operations at) e));
  }

  -- where a frame fits there is an instruction
  pub inside : (at : ℕ) (frame : Frame) → IsTrue (fits_known (x at) frame) → at < length m.program.operations
  inside at frame fit = elim (less_or_not at (length m.program.operations)) [ inl h ↦ h | inr h ↦ absurd (nothing_fits (x at) frame (sound.behind at h) fit) ]
