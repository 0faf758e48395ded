-- The machine's step is steady.
use Rattle.std.proofs.Common.{◌≡◌, ℕ, zero, suc, ◌+◌, ◌<◌, List, length, Option, Some, None, Bool, true, false, refl, sym, ap, subst, ◌∙◌, arith}
use Rattle.std.specs.Prelude.{IsSome, slice_get}
use Rattle.je_machine.specs.Value.{Value}
use Rattle.je_machine.specs.Classes.{Classes}
use Rattle.je_machine.specs.Action.{operands_of}
use Rattle.je_machine.specs.Operation.{Basic, Nop, Push, Drop, Copy, Swap, Act, Throw, Operation, Do, Load, Store, Increment, Branch, Goto, Switch, Return, Program}
use Rattle.je_machine.specs.Outside.{Outside, Response, Gave, Threw, Waits}
use Rattle.je_machine.specs.Acts.{HasKept}
use Rattle.je_machine.specs.Frame.{Frame, Stacked, Stands, Breaks, Stalls, stacked, perform_basic, Flow, Falls, Jumps, Leaves, Raises, Halts, flow_of, branch, perform, popped, top}
use Rattle.je_machine.specs.Step.{Ending, Outcome, Progress, Goes, Stops}
use Rattle.je_machine.specs.Machine.{State, Outer, follow, enter_handler, perform_at, take_step, machine_step, catcher}
use Rattle.je_machine.specs.View.{IsSteady, BeginsEvents, outside_after, with_more}
use Rattle.je_machine.proofs.RunLemmas.{begins_refl, no_value}
use Rattle.je_machine.proofs.OutsideLemmas.{act_kept, throw_kept, keeps_refl}

-- the progress with this much more of the bound left
shifted : ℕ → Progress State → Progress State
shifted k (Goes left t) = Goes (left + k) t
shifted k (Stops o) = Stops (with_more k o)

bound_left : Progress State → ℕ
bound_left (Goes left t) = left
bound_left (Stops o) = o.left

stop_ending : Progress State → Option Ending
stop_ending (Goes left t) = None
stop_ending (Stops o) = o.ending

progress_outside : Progress State → Outside
progress_outside (Goes left t) = t.outside
progress_outside (Stops o) = o.outside

-- ---- a step does the same whatever is left

enter_shifts : (h : Option ℕ) (n k : ℕ) (reference : Value) (locals : List Value) (outside : Outside) → enter_handler h (n + k) reference locals outside ≡ shifted k (enter_handler h n reference locals outside)
unfolding shifted
enter_shifts (Some h) n k reference locals outside = refl
enter_shifts None n k reference locals outside = refl

follow_shifts : (next : ℕ) (outer : Outer) (n k : ℕ) (locals : List Value) (f : Flow) → follow next outer (n + k) locals f ≡ shifted k (follow next outer n locals f)
unfolding shifted
follow_shifts next outer n k locals (Falls frame outside) = refl
follow_shifts next outer n k locals (Jumps target frame outside) = refl
follow_shifts next outer n k locals (Leaves result outside) = refl
follow_shifts next outer n k locals (Raises reference outside) = enter_shifts (outer outside.heap reference) n k reference locals outside
follow_shifts next outer n k locals (Halts outside) = refl

perform_shifts : (classes : Classes) (next : ℕ) (outer : Outer) (n k : ℕ) (o : Option Operation) (s : State) → perform_at classes next outer (n + k) o s ≡ shifted k (perform_at classes next outer n o s)
unfolding shifted
perform_shifts classes next outer n k (Some o) s = follow_shifts next outer n k s.frame.locals (perform classes o s.frame s.outside)
perform_shifts classes next outer n k None s = refl

-- ---- what is left is what was given

enter_left : (h : Option ℕ) (n : ℕ) (reference : Value) (locals : List Value) (outside : Outside) → bound_left (enter_handler h n reference locals outside) ≡ n
unfolding bound_left
enter_left (Some h) n reference locals outside = refl
enter_left None n reference locals outside = refl

follow_left : (next : ℕ) (outer : Outer) (n : ℕ) (locals : List Value) (f : Flow) → bound_left (follow next outer n locals f) ≡ n
unfolding bound_left
follow_left next outer n locals (Falls frame outside) = refl
follow_left next outer n locals (Jumps target frame outside) = refl
follow_left next outer n locals (Leaves result outside) = refl
follow_left next outer n locals (Raises reference outside) = enter_left (outer outside.heap reference) n reference locals outside
follow_left next outer n locals (Halts outside) = refl

perform_left : (classes : Classes) (next : ℕ) (outer : Outer) (n : ℕ) (o : Option Operation) (s : State) → bound_left (perform_at classes next outer n o s) ≡ n
unfolding bound_left
perform_left classes next outer n (Some o) s = follow_left next outer n s.frame.locals (perform classes o s.frame s.outside)
perform_left classes next outer n None s = refl

-- ---- events are only added

stacked_outside : Stacked → Outside
stacked_outside (Stands stack outside) = outside
stacked_outside (Breaks reference outside) = outside
stacked_outside (Stalls outside) = outside

flow_outside : Flow → Outside
flow_outside (Falls frame outside) = outside
flow_outside (Jumps target frame outside) = outside
flow_outside (Leaves result outside) = outside
flow_outside (Raises reference outside) = outside
flow_outside (Halts outside) = outside

stacked_adds : (rest : List Value) (o : Outside) (r : Response) → HasKept o r → BeginsEvents o (stacked_outside (stacked rest r))
unfolding stacked_outside
stacked_adds rest o (Gave v after) h = h.events
stacked_adds rest o (Threw v after) h = h.0.events
stacked_adds rest o (Waits after) h = h.events

basic_adds : (classes : Classes) (b : Basic) (stack : List Value) (o : Outside) → BeginsEvents o (stacked_outside (perform_basic classes b stack o))
unfolding stacked_outside
basic_adds classes Nop stack o = begins_refl o
basic_adds classes (Push v) stack o = begins_refl o
basic_adds classes (Drop p) stack o = begins_refl o
basic_adds classes (Copy p u) stack o = begins_refl o
basic_adds classes Swap stack o = begins_refl o
basic_adds classes (Act a) stack o = stacked_adds _ o _ (act_kept classes a (popped (length (operands_of a)) stack) o)
basic_adds classes Throw stack o = stacked_adds _ o _ (throw_kept (top stack) o o (keeps_refl o))

flow_of_outside : (locals : List Value) (s : Stacked) → flow_outside (flow_of locals s) ≡ stacked_outside s
unfolding flow_outside stacked_outside
flow_of_outside locals (Stands stack o) = refl
flow_of_outside locals (Breaks v o) = refl
flow_of_outside locals (Stalls o) = refl

branch_adds : (b : Bool) (target : ℕ) (frame : Frame) (o : Outside) → BeginsEvents o (flow_outside (branch b target frame o))
unfolding flow_outside
branch_adds true target frame o = begins_refl o
branch_adds false target frame o = begins_refl o

perform_adds : (classes : Classes) (op : Operation) (frame : Frame) (o : Outside) → BeginsEvents o (flow_outside (perform classes op frame o))
unfolding flow_outside
perform_adds classes (Do b) frame o =
    subst (BeginsEvents o) (sym (flow_of_outside frame.locals (perform_basic classes b frame.stack o))) (basic_adds classes b frame.stack o)
perform_adds classes (Load kind slot) frame o = begins_refl o
perform_adds classes (Store kind slot) frame o = begins_refl o
perform_adds classes (Increment slot by) frame o = begins_refl o
perform_adds classes (Branch c target) frame o = branch_adds _ target _ o
perform_adds classes (Goto target) frame o = begins_refl o
perform_adds classes (Switch cases fallback) frame o = begins_refl o
perform_adds classes (Return None) frame o = begins_refl o
perform_adds classes (Return (Some kind)) frame o = begins_refl o

enter_outside : (h : Option ℕ) (n : ℕ) (reference : Value) (locals : List Value) (outside : Outside) → progress_outside (enter_handler h n reference locals outside) ≡ outside
unfolding progress_outside
enter_outside (Some h) n reference locals outside = refl
enter_outside None n reference locals outside = refl

follow_outside : (next : ℕ) (outer : Outer) (n : ℕ) (locals : List Value) (f : Flow) → progress_outside (follow next outer n locals f) ≡ flow_outside f
unfolding flow_outside progress_outside
follow_outside next outer n locals (Falls frame outside) = refl
follow_outside next outer n locals (Jumps target frame outside) = refl
follow_outside next outer n locals (Leaves result outside) = refl
follow_outside next outer n locals (Raises reference outside) = enter_outside (outer outside.heap reference) n reference locals outside
follow_outside next outer n locals (Halts outside) = refl

perform_at_adds : (classes : Classes) (next : ℕ) (outer : Outer) (n : ℕ) (o : Option Operation) (s : State) → BeginsEvents s.outside (progress_outside (perform_at classes next outer n o s))
unfolding progress_outside
perform_at_adds classes next outer n (Some o) s =
    subst (λ (a : Outside). BeginsEvents s.outside a) (sym (follow_outside next outer n s.frame.locals (perform classes o s.frame s.outside))) (perform_adds classes o s.frame s.outside)
perform_at_adds classes next outer n None s = begins_refl s.outside

-- ---- the whole

module _ (p : Program) (classes : Classes) where
  after_is : (x : Progress State) → progress_outside x ≡ outside_after (machine_step p classes) x
  unfolding progress_outside
  after_is (Goes left t) = refl
  after_is (Stops o) = refl

  step_adds : (bound : ℕ) (s : State) → BeginsEvents s.outside (outside_after (machine_step p classes) (take_step p classes bound s))
  step_adds zero s = begins_refl s.outside
  step_adds (suc n) s =
      subst (BeginsEvents s.outside) (after_is (take_step p classes (suc n) s))
      (perform_at_adds classes (suc s.place) (catcher p.handlers classes s.place) n (slice_get p.operations s.place) s)

  step_spends : (bound left : ℕ) (s t : State) → take_step p classes bound s ≡ Goes left t → left < bound
  unfolding bound_left stop_ending progress_outside
  step_spends zero left s t e = absurd cc
  step_spends (suc n) left s t e =
      let is : n ≡ left = sym (perform_left classes (suc s.place) (catcher p.handlers classes s.place) n (slice_get p.operations s.place) s) ∙ ap bound_left e in
      omega arith

  step_shifts : (n k : ℕ) (s : State) → take_step p classes (suc n + k) s ≡ shifted k (take_step p classes (suc n) s)
  step_shifts n k s =
      let e : suc n + k ≡ suc (n + k) = omega arith in
      ap (λ (b : ℕ). take_step p classes b s) e ∙ perform_shifts classes (suc s.place) (catcher p.handlers classes s.place) n k (slice_get p.operations s.place) s

  step_goes_on : (bound left more : ℕ) (s t : State) → take_step p classes bound s ≡ Goes left t → take_step p classes (bound + more) s ≡ Goes (left + more) t
  unfolding shifted
  step_goes_on zero left more s t e = absurd cc
  step_goes_on (suc n) left more s t e = step_shifts n more s ∙ ap (shifted more) e

  step_ends : (bound more : ℕ) (s : State) (o : Outcome) → take_step p classes bound s ≡ Stops o → IsSome o.ending → take_step p classes (bound + more) s ≡ Stops (with_more more o)
  unfolding shifted stop_ending
  step_ends zero more s o e h = absurd (no_value o.ending (sym (ap stop_ending e)) h)
  step_ends (suc n) more s o e h = step_shifts n more s ∙ ap (shifted more) e

  step_waits : (bound more : ℕ) (s : State) (o : Outcome) → take_step p classes bound s ≡ Stops o → o.ending ≡ None
      → BeginsEvents o.outside (outside_after (machine_step p classes) (take_step p classes (bound + more) s))
  unfolding shifted progress_outside
  step_waits zero more s o e h =
      let is : s.outside ≡ o.outside = ap progress_outside e in
      subst (λ (a : Outside). BeginsEvents a (outside_after (machine_step p classes) (take_step p classes (0 + more) s))) is (step_adds (0 + more) s)
  step_waits (suc n) more s o e h = rw (step_shifts n more s, e) (begins_refl o.outside)

  pub machine_steady : IsSteady (machine_step p classes)
  machine_steady = record {
    spends = step_spends;
    goes_on = step_goes_on;
    ends = step_ends;
    adds = step_adds;
    waits = step_waits;
  }
