-- The spliced method does what the reference run of the method that it was made of does.
use Rattle.std.proofs.Common.{◌≡◌, ℕ, zero, suc, ◌+◌, ◌-◌, ◌<◌, List, [], ◌∷◌, length, Option, Some, None, refl, sym, ap, ◌∙◌, subst, arith}
use Rattle.std.specs.Prelude.{slice_get, option_and_then, option_map}
use Rattle.std.specs.List.{AllByRecursion}
use Rattle.std.proofs.lemmas.Option.{slice_get_within}
use Rattle.je_machine.specs.Value.{Kind, Value, zero_of}
use Rattle.je_machine.specs.Classes.{Classes}
use Rattle.je_machine.specs.Action.{Action, operands_of, result_of}
use Rattle.je_machine.specs.Operation.{Act, Operation, Do, Load, Store, Increment, Branch, Goto, Switch, Return, Program}
use Rattle.je_machine.specs.Outside.{Outside, Response, Gave, Threw, Waits}
use Rattle.je_machine.specs.Acting.{act}
use Rattle.je_machine.specs.Acts.{GivesKind}
use Rattle.je_machine.specs.Frame.{Frame, Stacked, Stands, Breaks, Stalls, stacked, perform_basic, Flow, Falls, Jumps, Leaves, Raises, Halts, flow_of, frame_of, perform, popped, push, under}
use Rattle.je_machine.specs.Step.{Step, Progress, Goes, Stops, Takes, advance, iterate, iterate_all}
use Rattle.je_machine.specs.Machine.{State, Outer, state_at, catcher, follow, perform_at, take_step, machine_step, start_of}
use Rattle.je_machine.specs.Simulation.{Pairs, IsFollowed, Simulates}
use Rattle.je_machine.specs.View.{AgreeingRuns, view_of}
use Rattle.je_session.specs.declared.plan.Fragment.{Fragment}
use Rattle.je_session.specs.declared.plan.Fragment.TheVariants.{Empty, Proceed}
use Rattle.je_session.specs.declared.plan.MethodPlan.{MethodPlan}
use Rattle.je_session.specs.declared.plan.Rule.{Rule}
use Rattle.je_session.specs.Agrees.{Agrees}
use Rattle.je_session.specs.Editable.{IsPlain}
use Rattle.je_session.specs.Means.{after_action}
use Rattle.je_session.specs.RefRun.{after_fragment, instead_of, step_at, take_reference, reference_step}
use Rattle.je_session.specs.Splice.{new_instrs, chosen_fragment}
use Rattle.je_session.proofs.ChosenLemmas.{chosen_acts}
use Rattle.je_session.proofs.IndexMapLemmas.{new_operations, instead, new_index, instead-unchosen, stays_here, next_index, none_past, plain_at}

-- what an action gives, and what follows each step of a run
pub record Laws : Type 0 where
  pub gives : (classes : Classes) (action : Action) (operands : List Value) (outside : Outside) → GivesKind (result_of action) (act classes action operands outside)
  pub agrees : (p : Program) (classes : Classes) (pairs : Pairs State State State) (old : Step State) → Simulates pairs old (machine_step p classes)
      → (s : State) → AgreeingRuns (λ k. iterate_all old k (pairs.old s)) (λ m. iterate_all (machine_step p classes) m (pairs.new s))

-- a method without parameters and handlers
abbrev pub plain_program : List Operation → Program
plain_program operations = record { parameters = []; operations = operations; handlers = [] }

-- ---- a plain operation goes on to the next, or out

abbrev NoJump : Flow → Type 0
NoJump (Jumps target frame outside) = ⊥
NoJump _ = Unit {0}

basic_falls : (locals : List Value) (s : Stacked) → NoJump (flow_of locals s)
basic_falls locals (Stands stack outside) = tt
basic_falls locals (Breaks reference outside) = tt
basic_falls locals (Stalls outside) = tt

plain_falls : (classes : Classes) (operation : Operation) (frame : Frame) (outside : Outside) → IsPlain operation → NoJump (perform classes operation frame outside)
plain_falls classes (Do basic) frame outside plain = basic_falls frame.locals (perform_basic classes basic frame.stack outside)
plain_falls classes (Load kind slot) frame outside plain = tt
plain_falls classes (Store kind slot) frame outside plain = tt
plain_falls classes (Increment slot by) frame outside plain = tt
plain_falls classes (Branch condition target) frame outside plain = absurd plain
plain_falls classes (Goto target) frame outside plain = absurd plain
plain_falls classes (Switch cases fallback) frame outside plain = absurd plain
plain_falls classes (Return None) frame outside plain = tt
plain_falls classes (Return (Some kind)) frame outside plain = tt

-- what follows a fragment that proceeds is what follows the action, where this gives nothing
proceeds : (next : ℕ) (outer : Outer) (left : ℕ) (rest locals : List Value) (response : Response) → GivesKind None response
    → after_fragment next outer rest locals (after_action left response) ≡ follow next outer left locals (flow_of locals (stacked rest response))
proceeds next outer left rest locals (Gave None after) gives = refl
proceeds next outer left rest locals (Gave (Some value) after) gives = absurd cc
proceeds next outer left rest locals (Threw reference after) gives = refl
proceeds next outer left rest locals (Waits after) gives = refl

-- what is left of the bound where a step goes on
left_of : ℕ → Progress State → ℕ
left_of n (Goes left t) = left
left_of n (Stops o) = n

module _ (laws : Laws) (classes : Classes) (rules : List Rule) (operations : List Operation) (plain : AllByRecursion IsPlain operations) where
  abbrev old_step : Step State
  old_step = reference_step (plain_program operations) classes rules

  abbrev new_program : Program
  new_program = plain_program (new_operations rules operations)

  abbrev new_step : Step State
  new_step = machine_step new_program classes

  abbrev to : ℕ → ℕ
  to place = new_index rules place operations

  abbrev to_state : State → State
  to_state s = state_at (to s.place) s.frame s.outside

  abbrev pairs : Pairs State State State
  pairs = record { old = λ s. s; new = to_state; lag = λ s. length operations - s.place }

  abbrev outer_at : ℕ → Outer
  outer_at place = catcher [] classes place

  -- the new method does an operation where it was sent
  new_takes : (s : State) (operation : Operation) → slice_get (new_operations rules operations) (to s.place) ≡ Some operation → (n : ℕ)
      → take_step new_program classes (suc n) (to_state s) ≡ follow (suc (to s.place)) (outer_at (to s.place)) n s.frame.locals (perform classes operation s.frame s.outside)
  new_takes s operation here n = ap (λ (o : Option Operation). perform_at classes (suc (to s.place)) (outer_at (to s.place)) n o (to_state s)) here

  -- one flow that both come to
  flow_followed : (s : State) (left : ℕ) (flow : Flow) → NoJump flow → s.place < length operations → to (suc s.place) ≡ suc (to s.place)
      → ((n : ℕ) → take_step new_program classes (suc n) (to_state s) ≡ follow (suc (to s.place)) (outer_at (to s.place)) n s.frame.locals flow)
      → IsFollowed pairs new_step (suc left) s (follow (suc s.place) (outer_at s.place) left s.frame.locals flow)
  flow_followed s left (Falls frame outside) falls within next takes =
      let t = state_at (suc s.place) frame outside in
      let goes : Takes new_step (to_state s) (to_state t) = λ n. takes n ∙ ap (λ k. Goes n (state_at k frame outside)) (sym next) in
      (t, 1, refl, (to_state t, goes, refl), omega (arith, within))
  flow_followed s left (Jumps target frame outside) falls within next takes = absurd falls
  flow_followed s left (Leaves result outside) falls within next takes =
      (suc left, omega arith, sym (ap (λ (x : Progress State). view_of (advance (iterate new_step left) x)) (takes left)))
  flow_followed s left (Raises reference outside) falls within next takes =
      (suc left, omega arith, sym (ap (λ (x : Progress State). view_of (advance (iterate new_step left) x)) (takes left)))
  flow_followed s left (Halts outside) falls within next takes =
      (suc left, omega arith, sym (ap (λ (x : Progress State). view_of (advance (iterate new_step left) x)) (takes left)))

  -- an operation that stays
  kept_followed : (s : State) (left : ℕ) (operation : Operation) → slice_get operations s.place ≡ Some operation → instead rules operation ≡ operation ∷ []
      → IsFollowed pairs new_step (suc left) s (follow (suc s.place) (outer_at s.place) left s.frame.locals (perform classes operation s.frame s.outside))
  kept_followed s left operation here alone =
      let next = next_index rules s.place operations operation here ∙ ap (λ l. to s.place + length l) alone in
      flow_followed s left (perform classes operation s.frame s.outside) (plain_falls classes operation s.frame s.outside (plain_at operations s.place operation plain here))
      (slice_get_within operations s.place operation here) (omega (arith, next))
      (new_takes s operation (stays_here rules s.place operations operation here alone))

  -- a chosen action
  action_followed : (s : State) (left : ℕ) (action : Action) (fragment : Fragment) → slice_get operations s.place ≡ Some (Do (Act action)) → chosen_fragment rules (Do (Act action)) ≡ Some fragment
      → IsFollowed pairs new_step (suc left) s (instead_of classes (suc s.place) (outer_at s.place) left action fragment s)
  action_followed s left action Empty here chosen =
      let nothing = plain_at operations s.place (Do (Act action)) plain here in
      let within = slice_get_within operations s.place (Do (Act action)) here in
      let gone : instead rules (Do (Act action)) ≡ [] = ap (λ choice. new_instrs (choice ∷ []) (Do (Act action) ∷ [])) chosen in
      let next = next_index rules s.place operations (Do (Act action)) here ∙ ap (λ l. to s.place + length l) gone in
      let same_place : to (suc s.place) ≡ to s.place = omega (arith, next) in
      let rest = under (length (operands_of action)) s.frame.stack in
      let frame = frame_of (push (option_map zero_of (result_of action)) rest) s.frame.locals in
      let same_frame : frame ≡ s.frame = ap (λ (r : Option Kind). frame_of (push (option_map zero_of r) rest) s.frame.locals) nothing.1
      ∙ ap (λ (ks : List Kind). frame_of (under (length ks) s.frame.stack) s.frame.locals) nothing.0 in
      let same : to_state (state_at (suc s.place) frame s.outside) ≡ to_state s =
      ap (λ (f : Frame). state_at (to (suc s.place)) f s.outside) same_frame ∙ ap (λ (k : ℕ). state_at k s.frame s.outside) same_place in
      (state_at (suc s.place) frame s.outside, 0, refl, sym same, omega (arith, within))
  action_followed s left action Proceed here chosen =
      let nothing = plain_at operations s.place (Do (Act action)) plain here in
      let alone : instead rules (Do (Act action)) ≡ Do (Act action) ∷ [] = ap (λ choice. new_instrs (choice ∷ []) (Do (Act action) ∷ [])) chosen in
      let rest = under (length (operands_of action)) s.frame.stack in
      let operands = popped (length (operands_of action)) s.frame.stack in
      let response = act classes action operands s.outside in
      let gives : GivesKind None response = subst (λ (k : Option Kind). GivesKind k response) nothing.1 (laws.gives classes action operands s.outside) in
      let same : instead_of classes (suc s.place) (outer_at s.place) left action Proceed s
      ≡ follow (suc s.place) (outer_at s.place) left s.frame.locals (perform classes (Do (Act action)) s.frame s.outside) =
      ap (λ (r : Option Kind). after_fragment (suc s.place) (outer_at s.place) (push (option_map zero_of r) rest) s.frame.locals (after_action left response)) nothing.1
      ∙ proceeds (suc s.place) (outer_at s.place) left rest s.frame.locals response gives in
      subst (λ (x : Progress State). IsFollowed pairs new_step (suc left) s x) (sym same) (kept_followed s left (Do (Act action)) here alone)

  by_choice : (s : State) (left : ℕ) (operation : Operation) → slice_get operations s.place ≡ Some operation → (choice : Option Fragment) → chosen_fragment rules operation ≡ choice
      → IsFollowed pairs new_step (suc left) s (step_at classes (suc s.place) (outer_at s.place) left choice (Some operation) s)
  by_choice s left operation here None none = kept_followed s left operation here (instead-unchosen rules operation none)
  by_choice s left operation here (Some fragment) chosen =
      let acts = chosen_acts operation rules fragment chosen in
      rw acts.1 (action_followed s left acts.0 fragment (here ∙ ap Some acts.1) (subst (λ o. chosen_fragment rules o ≡ Some fragment) acts.1 chosen))

  by_operation : (s : State) (left : ℕ) (o : Option Operation) → slice_get operations s.place ≡ o
      → IsFollowed pairs new_step (suc left) s (step_at classes (suc s.place) (outer_at s.place) left (option_and_then (chosen_fragment rules) o) o s)
  by_operation s left (Some operation) here = by_choice s left operation here (chosen_fragment rules operation) refl
  by_operation s left None here =
      (suc left, omega arith, sym (ap (λ (o : Option Operation). view_of (advance (iterate new_step left) (perform_at classes (suc (to s.place)) (outer_at (to s.place)) left o (to_state s)))) (none_past rules s.place operations here)))

  each : (bound : ℕ) (s : State) → IsFollowed pairs new_step bound s (take_reference (plain_program operations) classes rules bound s)
  each zero s = (0, omega arith, refl)
  each (suc left) s = by_operation s left (slice_get operations s.place) refl

  -- ---- a step spends one

  follow_left : (place n : ℕ) (locals : List Value) (flow : Flow) → left_of n (follow (suc place) (outer_at place) n locals flow) ≡ n
  unfolding left_of
  follow_left place n locals (Falls frame outside) = refl
  follow_left place n locals (Jumps target frame outside) = refl
  follow_left place n locals (Leaves result outside) = refl
  follow_left place n locals (Raises reference outside) = refl
  follow_left place n locals (Halts outside) = refl

  after_left : (place n : ℕ) (stack locals : List Value) (response : Response) → left_of n (after_fragment (suc place) (outer_at place) stack locals (after_action n response)) ≡ n
  unfolding left_of
  after_left place n stack locals (Gave value after) = refl
  after_left place n stack locals (Threw reference after) = refl
  after_left place n stack locals (Waits after) = refl

  action_left : (s : State) (n : ℕ) (action : Action) (fragment : Fragment) → left_of n (instead_of classes (suc s.place) (outer_at s.place) n action fragment s) ≡ n
  unfolding left_of
  action_left s n action Empty = refl
  action_left s n action Proceed = after_left s.place n _ s.frame.locals (act classes action (popped (length (operands_of action)) s.frame.stack) s.outside)

  choice_left : (s : State) (n : ℕ) (operation : Operation) (choice : Option Fragment) → chosen_fragment rules operation ≡ choice
      → left_of n (step_at classes (suc s.place) (outer_at s.place) n choice (Some operation) s) ≡ n
  choice_left s n operation None none = follow_left s.place n s.frame.locals (perform classes operation s.frame s.outside)
  choice_left s n operation (Some fragment) chosen =
      let acts = chosen_acts operation rules fragment chosen in
      rw acts.1 (action_left s n acts.0 fragment)

  step_left : (s : State) (n : ℕ) (o : Option Operation) → left_of n (step_at classes (suc s.place) (outer_at s.place) n (option_and_then (chosen_fragment rules) o) o s) ≡ n
  unfolding left_of
  step_left s n (Some operation) = choice_left s n operation (chosen_fragment rules operation) refl
  step_left s n None = refl

  spends : (bound left : ℕ) (s t : State) → take_reference (plain_program operations) classes rules bound s ≡ Goes left t → left < bound
  unfolding left_of
  spends zero left s t e = absurd cc
  spends (suc n) left s t e =
      let is : n ≡ left = sym (step_left s n (slice_get operations s.place)) ∙ ap (left_of n) e in
      omega (arith, is)

  simulates : Simulates pairs old_step new_step
  simulates = record {
    alike = λ s. refl;
    spends = spends;
    each = each;
  }

  pub runs_agree : (s : State) → AgreeingRuns (λ k. iterate_all old_step k s) (λ m. iterate_all new_step m (to_state s))
  runs_agree s = laws.agrees new_program classes pairs old_step simulates s

-- the new method does what the plan says of the old one
pub agrees : Laws → (plan : MethodPlan) (operations : List Operation) → AllByRecursion IsPlain operations
    → Agrees (plain_program operations) plan (plain_program (new_operations plan.rules operations))
agrees laws plan operations plain classes arguments heap answers =
    runs_agree laws classes plan.rules operations plain (start_of (plain_program operations) arguments heap answers)
