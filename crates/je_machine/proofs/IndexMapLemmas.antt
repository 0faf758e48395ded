-- A program at other places runs as it did.
use Rattle.std.proofs.Common.{◌≡◌, ℕ, zero, suc, List, [], ◌∷◌, Option, Some, None, Bool, true, false, cond, refl, sym, ap, subst, ◌∙◌}
use Rattle.std.specs.Prelude.{ℤ, map, filter, IfSome, option_map, unwrap_or, slice_get, IsTrue}
use Rattle.std.specs.List.{AllByRecursion, find}
use Rattle.std.specs.Ordering.{int_eq}
use Rattle.je_machine.specs.Value.{Value, Int, Long, Flt, Dbl, Null, Obj, Const, ReferenceKind, admit, number_of}
use Rattle.je_machine.specs.Heap.{Heap}
use Rattle.je_machine.specs.Classes.{Classes}
use Rattle.je_machine.specs.Outside.{Outside, throw_admitted}
use Rattle.je_machine.specs.Operation.{Nop, Push, Drop, Copy, Swap, Act, Throw, Operation, Do, Load, Store, Increment, Branch, Goto, Switch, Return, Handler, Program}
use Rattle.je_machine.specs.Frame.{Frame, Stacked, Stands, Breaks, Stalls, stacked, perform_basic, Flow, Falls, Jumps, Leaves, Raises, Halts, flow_of, branch, chosen_case, perform, top, below}
use Rattle.je_machine.specs.Step.{Progress, Goes, Stops, advance, iterate, iterate_all}
use Rattle.je_machine.specs.Machine.{State, Outer, catcher, covers, catches, enter_handler, follow, perform_at, take_step, machine_step}
use Rattle.je_machine.specs.Moved.{retargeted, moved_flow}
use Rattle.je_machine.specs.IndexMap.{Way, ways_at, moved_way, may_fall, TargetsIn, MovesProgram, moved_state}
use Rattle.je_machine.proofs.HandlerLemmas.{catcher_covers}
use Rattle.je_machine.proofs.MovedLemmas.{perform_retargeted}

-- ---- where throws go

first_way : Classes → Heap → Value → List Way → Option ℕ
first_way classes heap v ways = option_map (λ (w : Way). w.0) (find (λ (w : Way). catches classes heap v w.1) ways)

way_by : (b : Bool) (h : Handler) (rest : Option Handler) (rest' : Option Way) → option_map (λ (g : Handler). g.target) rest ≡ option_map (λ (w : Way). w.0) rest'
    → option_map (λ (g : Handler). g.target) (cond b (Some h) rest) ≡ option_map (λ (w : Way). w.0) (cond b (Some (h.target, h.catch_class)) rest')
way_by true h rest rest' e = refl
way_by false h rest rest' e = e

to_way : (classes : Classes) (heap : Heap) (v : Value) (hs : List Handler)
    → option_map (λ (h : Handler). h.target) (find (λ h. catches classes heap v h.catch_class) hs) ≡ first_way classes heap v (map (λ h. (h.target, h.catch_class)) hs)
unfolding first_way
to_way classes heap v [] = refl
to_way classes heap v (h ∷ hs) =
    way_by (catches classes heap v h.catch_class) h (find (λ g. catches classes heap v g.catch_class) hs)
    (find (λ (w : Way). catches classes heap v w.1) (map (λ g. (g.target, g.catch_class)) hs)) (to_way classes heap v hs)

catcher_way : (hs : List Handler) (classes : Classes) (place : ℕ) (heap : Heap) (v : Value) → catcher hs classes place heap v ≡ first_way classes heap v (ways_at hs place)
catcher_way hs classes place heap v = catcher_covers hs classes place heap v ∙ to_way classes heap v (filter (covers place) hs)

moved_by : (to : ℕ → ℕ) (b : Bool) (w : Way) (rest rest' : Option Way) → option_map (λ (x : Way). x.0) rest' ≡ option_map to (option_map (λ (x : Way). x.0) rest)
    → option_map (λ (x : Way). x.0) (cond b (Some (moved_way to w)) rest') ≡ option_map to (option_map (λ (x : Way). x.0) (cond b (Some w) rest))
moved_by to true w rest rest' e = refl
moved_by to false w rest rest' e = e

way_moved : (to : ℕ → ℕ) (classes : Classes) (heap : Heap) (v : Value) (ways : List Way)
    → first_way classes heap v (map (moved_way to) ways) ≡ option_map to (first_way classes heap v ways)
unfolding first_way
way_moved to classes heap v [] = refl
way_moved to classes heap v (w ∷ ways) =
    moved_by to (catches classes heap v w.1) w (find (λ (x : Way). catches classes heap v x.1) ways)
    (find (λ (x : Way). catches classes heap v x.1) (map (moved_way to) ways)) (way_moved to classes heap v ways)

in_by : (inside : ℕ → Bool) (b : Bool) (w : Way) (rest : Option Way) → IsTrue (inside w.0) → IfSome (option_map (λ (x : Way). x.0) rest) (λ t. IsTrue (inside t))
    → IfSome (option_map (λ (x : Way). x.0) (cond b (Some w) rest)) (λ t. IsTrue (inside t))
in_by inside true w rest h k = h
in_by inside false w rest h k = k

way_in : (inside : ℕ → Bool) (classes : Classes) (heap : Heap) (v : Value) (ways : List Way) → AllByRecursion (λ (w : Way). IsTrue (inside w.0)) ways
    → IfSome (first_way classes heap v ways) (λ t. IsTrue (inside t))
unfolding first_way
way_in inside classes heap v [] h = tt
way_in inside classes heap v (w ∷ ways) h = in_by inside (catches classes heap v w.1) w (find (λ (x : Way). catches classes heap v x.1) ways) h.0 (way_in inside classes heap v ways h.1)

-- ---- where instructions lead

-- the flow goes to places of the set
FlowIn : (ℕ → Bool) → Type 0 → Flow → Type 0
FlowIn inside Next (Falls frame o) = Next
FlowIn inside Next (Jumps target frame o) = IsTrue (inside target)
FlowIn inside Next _ = Unit {0}

basic_in : (inside : ℕ → Bool) (Next : Type 0) (locals : List Value) (s : Stacked) → Next → FlowIn inside Next (flow_of locals s)
unfolding FlowIn
basic_in inside Next locals (Stands stack o) h = h
basic_in inside Next locals (Breaks v o) h = tt
basic_in inside Next locals (Stalls o) h = tt

throw_in : (inside : ℕ → Bool) (Next : Type 0) (locals rest : List Value) (v : Value) (o : Outside) → FlowIn inside Next (flow_of locals (stacked rest (throw_admitted v o)))
unfolding FlowIn
throw_in inside Next locals rest (Int n) o = tt
throw_in inside Next locals rest (Long n) o = tt
throw_in inside Next locals rest (Flt n) o = tt
throw_in inside Next locals rest (Dbl n) o = tt
throw_in inside Next locals rest Null o = tt
throw_in inside Next locals rest (Obj n) o = tt
throw_in inside Next locals rest (Const c) o = tt

branch_in : (inside : ℕ → Bool) (Next : Type 0) (b : Bool) (target : ℕ) (frame : Frame) (o : Outside) → Next → IsTrue (inside target) → FlowIn inside Next (branch b target frame o)
unfolding FlowIn
branch_in inside Next true target frame o h k = k
branch_in inside Next false target frame o h k = h

case_by : (inside : ℕ → Bool) (b : Bool) (c : ℤ × ℕ) (rest : Option (ℤ × ℕ)) (fallback : ℕ) → IsTrue (inside c.1) → IsTrue (inside (unwrap_or (option_map (λ (d : ℤ × ℕ). d.1) rest) fallback))
    → IsTrue (inside (unwrap_or (option_map (λ (d : ℤ × ℕ). d.1) (cond b (Some c) rest)) fallback))
case_by inside true c rest fallback h k = h
case_by inside false c rest fallback h k = k

case_in : (inside : ℕ → Bool) (cases : List (ℤ × ℕ)) (fallback : ℕ) (key : ℤ) → AllByRecursion (λ c. IsTrue (inside c.1)) cases → IsTrue (inside fallback)
    → IsTrue (inside (chosen_case cases fallback key))
case_in inside [] fallback key h k = k
case_in inside (c ∷ cases) fallback key h k =
    case_by inside (int_eq c.0 key) c (find (λ d. int_eq d.0 key) cases) fallback h.0 (case_in inside cases fallback key h.1 k)

perform_in : (inside : ℕ → Bool) (Next : Type 0) (classes : Classes) (op : Operation) (frame : Frame) (o : Outside) → TargetsIn inside op → (IsTrue (may_fall op) → Next)
    → FlowIn inside Next (perform classes op frame o)
unfolding FlowIn
perform_in inside Next classes (Do Nop) frame o targets next = next refl
perform_in inside Next classes (Do (Push v)) frame o targets next = next refl
perform_in inside Next classes (Do (Drop p)) frame o targets next = next refl
perform_in inside Next classes (Do (Copy p u)) frame o targets next = next refl
perform_in inside Next classes (Do Swap) frame o targets next = next refl
perform_in inside Next classes (Do (Act a)) frame o targets next = basic_in inside Next frame.locals (perform_basic classes (Act a) frame.stack o) (next refl)
perform_in inside Next classes (Do Throw) frame o targets next = throw_in inside Next frame.locals (below frame.stack) (admit ReferenceKind (top frame.stack)) o
perform_in inside Next classes (Load kind slot) frame o targets next = next refl
perform_in inside Next classes (Store kind slot) frame o targets next = next refl
perform_in inside Next classes (Increment slot by) frame o targets next = next refl
perform_in inside Next classes (Branch c target) frame o targets next = branch_in inside Next _ target _ o (next refl) targets
perform_in inside Next classes (Goto target) frame o targets next = targets
perform_in inside Next classes (Switch cases fallback) frame o targets next = case_in inside cases fallback (number_of (top frame.stack)) targets.0 targets.1
perform_in inside Next classes (Return None) frame o targets next = tt
perform_in inside Next classes (Return (Some kind)) frame o targets next = tt

-- ---- one step

moved_progress : (ℕ → ℕ) → Progress State → Progress State
moved_progress to (Goes left s) = Goes left (moved_state to s)
moved_progress to (Stops o) = Stops o

StaysIn : (ℕ → Bool) → Progress State → Type 0
StaysIn inside (Goes left s) = IsTrue (inside s.place)
StaysIn inside (Stops o) = Unit {0}

-- the step of the new program is that of the old one, moved
record Moved (to : ℕ → ℕ) (inside : ℕ → Bool) (old new : Progress State) : Type 0 where
  same : new ≡ moved_progress to old
  stays : StaysIn inside old

enter_moved : (to : ℕ → ℕ) (inside : ℕ → Bool) (t t' : Option ℕ) (left : ℕ) (v : Value) (locals : List Value) (o : Outside) → t' ≡ option_map to t
    → IfSome t (λ x. IsTrue (inside x)) → Moved to inside (enter_handler t left v locals o) (enter_handler t' left v locals o)
unfolding moved_progress StaysIn
enter_moved to inside (Some t) t' left v locals o e h = record { same = ap (λ x. enter_handler x left v locals o) e; stays = h }
enter_moved to inside None t' left v locals o e h = record { same = ap (λ x. enter_handler x left v locals o) e; stays = tt }

follow_moved : (to : ℕ → ℕ) (inside : ℕ → Bool) (next next' : ℕ) (outer outer' : Outer) (left : ℕ) (locals : List Value) (f : Flow)
    → ((heap : Heap) (v : Value) → outer' heap v ≡ option_map to (outer heap v)) → ((heap : Heap) (v : Value) → IfSome (outer heap v) (λ x. IsTrue (inside x)))
    → FlowIn inside (IsTrue (inside next) × (to next ≡ next')) f
    → Moved to inside (follow next outer left locals f) (follow next' outer' left locals (moved_flow to f))
unfolding moved_progress StaysIn FlowIn
follow_moved to inside next next' outer outer' left locals (Falls frame o) same within h =
    record { same = ap (λ (n : ℕ). follow n outer' left locals (Falls frame o)) (sym h.1); stays = h.0 }
follow_moved to inside next next' outer outer' left locals (Jumps target frame o) same within h = record { same = refl; stays = h }
follow_moved to inside next next' outer outer' left locals (Leaves result o) same within h = record { same = refl; stays = tt }
follow_moved to inside next next' outer outer' left locals (Raises v o) same within h =
    enter_moved to inside (outer o.heap v) (outer' o.heap v) left v locals o (same o.heap v) (within o.heap v)
follow_moved to inside next next' outer outer' left locals (Halts o) same within h = record { same = refl; stays = tt }

at_moved : (to : ℕ → ℕ) (inside : ℕ → Bool) (classes : Classes) (next next' : ℕ) (outer outer' : Outer) (left : ℕ) (s : State) (op op' : Option Operation)
    → op' ≡ option_map (retargeted to) op
    → IfSome op (TargetsIn inside) → IfSome op (λ o. IsTrue (may_fall o) → IsTrue (inside next) × (to next ≡ next'))
    → ((heap : Heap) (v : Value) → outer' heap v ≡ option_map to (outer heap v)) → ((heap : Heap) (v : Value) → IfSome (outer heap v) (λ x. IsTrue (inside x)))
    → Moved to inside (perform_at classes next outer left op s) (perform_at classes next' outer' left op' (moved_state to s))
unfolding moved_progress StaysIn
at_moved to inside classes next next' outer outer' left s (Some op) op' e targets falls same within =
    let m = follow_moved to inside next next' outer outer' left s.frame.locals (perform classes op s.frame s.outside) same within
    (perform_in inside (IsTrue (inside next) × (to next ≡ next')) classes op s.frame s.outside targets falls) in
    record {
      same =
          ap (λ x. perform_at classes next' outer' left x (moved_state to s)) e
          ∙ ap (follow next' outer' left s.frame.locals) (perform_retargeted classes to op s.frame s.outside) ∙ m.same;
      stays = m.stays;
    }
at_moved to inside classes next next' outer outer' left s None op' e targets falls same within =
    record { same = ap (λ x. perform_at classes next' outer' left x (moved_state to s)) e; stays = tt }

module _ (to : ℕ → ℕ) (inside : ℕ → Bool) (old new : Program) (moves : MovesProgram to inside old new) (classes : Classes) where
  step_moved : (bound : ℕ) (s : State) → IsTrue (inside s.place) → Moved to inside (take_step old classes bound s) (take_step new classes bound (moved_state to s))
  unfolding moved_progress StaysIn
  step_moved zero s h = record { same = refl; stays = tt }
  step_moved (suc left) s h =
      let m = moves s.place h in
      at_moved to inside classes (suc s.place) (suc (to s.place)) (catcher old.handlers classes s.place) (catcher new.handlers classes (to s.place)) left s
      (slice_get old.operations s.place) (slice_get new.operations (to s.place)) m.operation m.targets m.next
      (λ heap v.
      catcher_way new.handlers classes (to s.place) heap v
      ∙ ap (first_way classes heap v) m.ways
      ∙ way_moved to classes heap v (ways_at old.handlers s.place)
      ∙ sym (ap (option_map to) (catcher_way old.handlers classes s.place heap v)))
      (λ heap v.
      subst (λ (t : Option ℕ). IfSome t (λ x. IsTrue (inside x))) (sym (catcher_way old.handlers classes s.place heap v))
      (way_in inside classes heap v (ways_at old.handlers s.place) m.caught))

  advance_moved : (turns : ℕ) (p q : Progress State) → Moved to inside p q
      → ((left : ℕ) (s : State) → IsTrue (inside s.place) → iterate (machine_step new classes) turns left (moved_state to s) ≡ iterate (machine_step old classes) turns left s)
      → advance (iterate (machine_step new classes) turns) q ≡ advance (iterate (machine_step old classes) turns) p
  unfolding moved_progress StaysIn
  advance_moved turns (Goes left s) q m rest = ap (advance (iterate (machine_step new classes) turns)) m.same ∙ rest left s m.stays
  advance_moved turns (Stops o) q m rest = ap (advance (iterate (machine_step new classes) turns)) m.same

  iterate_moved : (turns bound : ℕ) (s : State) → IsTrue (inside s.place)
      → iterate (machine_step new classes) turns bound (moved_state to s) ≡ iterate (machine_step old classes) turns bound s
  iterate_moved zero bound s h = refl
  iterate_moved (suc turns) bound s h =
      advance_moved turns (take_step old classes bound s) (take_step new classes bound (moved_state to s)) (step_moved bound s h)
      (λ left t k. iterate_moved turns left t k)

  pub run_moved : (s : State) → IsTrue (inside s.place) → (n : ℕ) → iterate_all (machine_step new classes) n (moved_state to s) ≡ iterate_all (machine_step old classes) n s
  run_moved s h n = iterate_moved n n s h
