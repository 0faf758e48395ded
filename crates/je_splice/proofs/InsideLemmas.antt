-- Where all to which items lead is the place of one, no run leaves them.
use Rattle.std.proofs.Common.{◌≡◌, ℕ, zero, suc, List, [], ◌∷◌, Option, Some, None, Bool, true, false, cond, refl, subst}
use Rattle.std.specs.Prelude.{ℤ, IsTrue, option_map, unwrap_or, slice_get}
use Rattle.std.specs.List.{AllByRecursion, find}
use Rattle.std.specs.Ordering.{int_eq}
use Rattle.je_machine.specs.Value.{Kind, Value, Int, Long, Flt, Dbl, Null, Obj, Const, ReferenceKind, admit, number_of}
use Rattle.je_machine.specs.Heap.{Heap}
use Rattle.je_machine.specs.Classes.{Classes}
use Rattle.je_machine.specs.Outside.{Outside, throw_admitted}
use Rattle.je_machine.specs.Operation.{Nop, Push, Drop, Copy, Swap, Act, Throw, Operation, Do, Load, Store, Increment, Branch, Goto, Switch, Return, Handler}
use Rattle.je_machine.specs.Frame.{Frame, Stacked, Stands, Breaks, Stalls, stacked, perform_basic, Flow, Falls, Jumps, Leaves, Raises, Halts, flow_of, branch, chosen_case, perform, top, below}
use Rattle.je_machine.specs.Step.{Progress, Goes, Stops}
use Rattle.je_machine.specs.Machine.{State, Outer, catcher, is_handler_of, enter_handler, follow}
use Rattle.je_machine.specs.IndexMap.{may_fall, TargetsIn}
use Rattle.je_splice.specs.Block.{Completes, Throws, Returns, Meant, Exits, Stays}
use Rattle.je_splice.specs.Reference.{follow_meant, do_at, take_reference}
use Rattle.je_splice.specs.Layout.{Item, Keeps, Puts, next_place}
use Rattle.je_splice.specs.Laid.{Fragment, doing_of, reference_of, inside, AreClosed}

-- what a step comes to is inside
StaysIn : (ℕ → Bool) → Progress State → Type 0
StaysIn within (Goes left s) = IsTrue (within s.place)
StaysIn within (Stops o) = Unit {0}

-- ---- throws

TargetIn : (ℕ → Bool) → Option ℕ → Type 0
TargetIn within (Some target) = IsTrue (within target)
TargetIn within None = Unit {0}

first_in : (within : ℕ → Bool) (b : Bool) (h : Handler) (rest : Option Handler) → IsTrue (within h.target) → TargetIn within (option_map (λ (g : Handler). g.target) rest)
    → TargetIn within (option_map (λ (g : Handler). g.target) (cond b (Some h) rest))
unfolding TargetIn
first_in within true h rest own other = own
first_in within false h rest own other = other

catcher_in : (within : ℕ → Bool) (hs : List Handler) (classes : Classes) (place : ℕ) (heap : Heap) (v : Value) → AllByRecursion (λ (h : Handler). IsTrue (within h.target)) hs
    → TargetIn within (catcher hs classes place heap v)
unfolding TargetIn
catcher_in within [] classes place heap v each = tt
catcher_in within (h ∷ hs) classes place heap v each =
    first_in within (is_handler_of classes heap v place h) h (find (is_handler_of classes heap v place) hs) each.0 (catcher_in within hs classes place heap v each.1)

enter_in : (within : ℕ → Bool) (out : Option ℕ) (left : ℕ) (v : Value) (locals : List Value) (o : Outside) → TargetIn within out → StaysIn within (enter_handler out left v locals o)
unfolding StaysIn TargetIn
enter_in within (Some target) left v locals o h = h
enter_in within None left v locals o h = tt

-- ---- instructions

FlowIn : (ℕ → Bool) → Type 0 → Flow → Type 0
FlowIn within Next (Falls frame o) = Next
FlowIn within Next (Jumps target frame o) = IsTrue (within target)
FlowIn within Next _ = Unit {0}

basic_in : (within : ℕ → Bool) (Next : Type 0) (locals : List Value) (s : Stacked) → Next → FlowIn within Next (flow_of locals s)
unfolding FlowIn
basic_in within Next locals (Stands stack o) h = h
basic_in within Next locals (Breaks v o) h = tt
basic_in within Next locals (Stalls o) h = tt

throw_in : (within : ℕ → Bool) (Next : Type 0) (locals rest : List Value) (v : Value) (o : Outside) → FlowIn within Next (flow_of locals (stacked rest (throw_admitted v o)))
unfolding FlowIn
throw_in within Next locals rest (Int n) o = tt
throw_in within Next locals rest (Long n) o = tt
throw_in within Next locals rest (Flt n) o = tt
throw_in within Next locals rest (Dbl n) o = tt
throw_in within Next locals rest Null o = tt
throw_in within Next locals rest (Obj n) o = tt
throw_in within Next locals rest (Const c) o = tt

branch_in : (within : ℕ → Bool) (Next : Type 0) (b : Bool) (target : ℕ) (frame : Frame) (o : Outside) → Next → IsTrue (within target) → FlowIn within Next (branch b target frame o)
unfolding FlowIn
branch_in within Next true target frame o h k = k
branch_in within Next false target frame o h k = h

case_by : (within : ℕ → Bool) (b : Bool) (c : ℤ × ℕ) (rest : Option (ℤ × ℕ)) (fallback : ℕ) → IsTrue (within c.1) → IsTrue (within (unwrap_or (option_map (λ (d : ℤ × ℕ). d.1) rest) fallback))
    → IsTrue (within (unwrap_or (option_map (λ (d : ℤ × ℕ). d.1) (cond b (Some c) rest)) fallback))
case_by within true c rest fallback h k = h
case_by within false c rest fallback h k = k

case_in : (within : ℕ → Bool) (cases : List (ℤ × ℕ)) (fallback : ℕ) (key : ℤ) → AllByRecursion (λ c. IsTrue (within c.1)) cases → IsTrue (within fallback)
    → IsTrue (within (chosen_case cases fallback key))
case_in within [] fallback key h k = k
case_in within (c ∷ cases) fallback key h k =
    case_by within (int_eq c.0 key) c (find (λ d. int_eq d.0 key) cases) fallback h.0 (case_in within cases fallback key h.1 k)

perform_in : (within : ℕ → Bool) (Next : Type 0) (classes : Classes) (op : Operation) (frame : Frame) (o : Outside) → TargetsIn within op → (IsTrue (may_fall op) → Next)
    → FlowIn within Next (perform classes op frame o)
unfolding FlowIn
perform_in within Next classes (Do Nop) frame o targets next = next refl
perform_in within Next classes (Do (Push v)) frame o targets next = next refl
perform_in within Next classes (Do (Drop p)) frame o targets next = next refl
perform_in within Next classes (Do (Copy p u)) frame o targets next = next refl
perform_in within Next classes (Do Swap) frame o targets next = next refl
perform_in within Next classes (Do (Act a)) frame o targets next = basic_in within Next frame.locals (perform_basic classes (Act a) frame.stack o) (next refl)
perform_in within Next classes (Do Throw) frame o targets next = throw_in within Next frame.locals (below frame.stack) (admit ReferenceKind (top frame.stack)) o
perform_in within Next classes (Load kind slot) frame o targets next = next refl
perform_in within Next classes (Store kind slot) frame o targets next = next refl
perform_in within Next classes (Increment slot by) frame o targets next = next refl
perform_in within Next classes (Branch c target) frame o targets next = branch_in within Next _ target _ o (next refl) targets
perform_in within Next classes (Goto target) frame o targets next = targets
perform_in within Next classes (Switch cases fallback) frame o targets next = case_in within cases fallback (number_of (top frame.stack)) targets.0 targets.1
perform_in within Next classes (Return None) frame o targets next = tt
perform_in within Next classes (Return (Some kind)) frame o targets next = tt

follow_in : (within : ℕ → Bool) (next : ℕ) (outer : Outer) (left : ℕ) (locals : List Value) (f : Flow) → ((heap : Heap) (v : Value) → TargetIn within (outer heap v))
    → FlowIn within (IsTrue (within next)) f → StaysIn within (follow next outer left locals f)
unfolding StaysIn FlowIn
follow_in within next outer left locals (Falls frame o) thrown h = h
follow_in within next outer left locals (Jumps target frame o) thrown h = h
follow_in within next outer left locals (Leaves result o) thrown h = tt
follow_in within next outer left locals (Raises v o) thrown h = enter_in within (outer o.heap v) left v locals o (thrown o.heap v)
follow_in within next outer left locals (Halts o) thrown h = tt

meant_in : (within : ℕ → Bool) (next : ℕ) (outer : Outer) (meant : Meant) → ((heap : Heap) (v : Value) → TargetIn within (outer heap v)) → IsTrue (within next)
    → StaysIn within (follow_meant next outer meant)
unfolding StaysIn
meant_in within next outer (Exits (Completes stack) left locals o) thrown h = h
meant_in within next outer (Exits (Throws v) left locals o) thrown h = enter_in within (outer o.heap v) left v locals o (thrown o.heap v)
meant_in within next outer (Exits (Returns result) left locals o) thrown h = tt
meant_in within next outer (Stays left locals o) thrown h = tt

-- ---- a step

module _ (parameters : List Kind) (items : List (Item Operation Fragment)) (handlers : List Handler) (closed : AreClosed items handlers) where
  abbrev within : ℕ → Bool
  within = inside items

  thrown_in : (classes : Classes) (place : ℕ) (heap : Heap) (v : Value) → TargetIn within (catcher handlers classes place heap v)
  thrown_in classes place heap v = catcher_in within handlers classes place heap v closed.caught

  do_in : (classes : Classes) (left : ℕ) (s : State) (found : Option (Item Operation Fragment)) → slice_get items s.place ≡ found
      → StaysIn within (do_at classes (next_place items s.place) (catcher handlers classes s.place) left (option_map doing_of found) s)
  unfolding StaysIn
  do_in classes left s None is = tt
  do_in classes left s (Some (Keeps over operation)) is =
      follow_in within (next_place items s.place) (catcher handlers classes s.place) left s.frame.locals (perform classes operation s.frame s.outside) (thrown_in classes s.place)
      (perform_in within (IsTrue (within (next_place items s.place))) classes operation s.frame s.outside (closed.targets s.place (Keeps over operation) is)
      (λ falls. closed.next s.place (Keeps over operation) is falls))
  do_in classes left s (Some (Puts over fragment)) is =
      meant_in within (next_place items s.place) (catcher handlers classes s.place) (fragment.meaning classes left s.frame s.outside) (thrown_in classes s.place)
      (closed.next s.place (Puts over fragment) is refl)

  take_in : (classes : Classes) (bound : ℕ) (s : State) → StaysIn within (take_reference (reference_of parameters items handlers) classes bound s)
  unfolding StaysIn
  take_in classes zero s = tt
  take_in classes (suc left) s = do_in classes left s (slice_get items s.place) refl

  pub stays_inside : (classes : Classes) (bound left : ℕ) (s t : State) → IsTrue (within s.place)
      → take_reference (reference_of parameters items handlers) classes bound s ≡ Goes left t → IsTrue (within t.place)
  unfolding StaysIn
  stays_inside classes bound left s t h e = subst (StaysIn within) e (take_in classes bound s)
