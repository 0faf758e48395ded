-- An instruction that stays keeps to sound shapes, and so does what is thrown at an index.
use Rattle.std.proofs.Common.{◌≡◌, ℕ, suc, List, [], ◌∷◌, Option, Some, Bool, true, false, ◌&&◌, refl}
use Rattle.std.specs.Prelude.{IsTrue, IfSome, cond, option_map, slice_get}
use Rattle.std.specs.List.{AllByRecursion, find}
use Rattle.je_machine.specs.Value.{Value}
use Rattle.je_machine.specs.Heap.{Heap}
use Rattle.je_machine.specs.Classes.{Classes}
use Rattle.je_machine.specs.Outside.{Outside}
use Rattle.je_machine.specs.Acts.{is_reference}
use Rattle.je_machine.specs.Operation.{Operation, Handler}
use Rattle.je_machine.specs.Frame.{Frame, frame_of, Flow, Falls, Jumps, Leaves, Raises, Halts, perform}
use Rattle.je_machine.specs.Machine.{covers, catches, is_handler_of}
use Rattle.je_shape.specs.Shape.{Shape, Known, Nothing, Has, Broken}
use Rattle.je_shape.specs.Flow.{flow}
use Rattle.je_shape.specs.Least.{Method, Assignment, Serves, Passes, IsFaultOf}
use Rattle.je_shape.proofs.DecidedLemmas.{served}
use Rattle.je_fit.specs.Fits.{fits_known}
use Rattle.je_fit.specs.Sound.{IsWellFormed, IsSound, CatchFits, FlowKeeps}
use Rattle.je_fit.proofs.FrameLemmas.{FrameFits, to_frame}
use Rattle.je_fit.proofs.StepLemmas.{flow_keeps, flow_stable, instruction_keeps}
use Rattle.je_splice.specs.Reference.{Performs}
use Rattle.je_stay.specs.Keeping.{ThrowKeeps, PerformKeeps}
use Rattle.je_stay.specs.Marked.{thrown_from, KeepsAt}

-- a handler is entered in a frame that fits
abbrev Enters : Assignment → Frame → Option Handler → Type 0
Enters x f found = IfSome (option_map (λ (h : Handler). h.target) found) (λ to. IsTrue (fits_known (x to) f))

first_enters : (x : Assignment) (f : Frame) (b c : Bool) (h : Handler) (rest : Option Handler) → (b ≡ true → IsTrue (fits_known (x h.target) f)) → Enters x f rest
    → Enters x f (cond (b && c) (Some h) rest)
first_enters x f true true h rest enters k = enters refl
first_enters x f true false h rest enters k = k
first_enters x f false c h rest enters k = k

found_enters : (x : Assignment) (f : Frame) (classes : Classes) (at : ℕ) (heap : Heap) (v : Value) (hs : List Handler) → AllByRecursion (CatchFits x at f) hs
    → Enters x f (find (is_handler_of classes heap v at) hs)
found_enters x f classes at heap v [] r = tt
found_enters x f classes at heap v (h ∷ hs) r =
    first_enters x f (covers at h) (catches classes heap v h.catch_class) h (find (is_handler_of classes heap v at) hs) r.0 (found_enters x f classes at heap v hs r.1)

flow_stays : (m : Method) (x : Assignment) (at : ℕ) (classes : Classes) (locals : List Value) (flow : Flow) → FlowKeeps m x at locals flow
    → PerformKeeps m.result x (x (suc at)) (thrown_from m at classes) locals flow
flow_stays m x at classes locals (Falls f o) h = h
flow_stays m x at classes locals (Jumps target f o) h = h
flow_stays m x at classes locals (Leaves result o) h = h.1
flow_stays m x at classes locals (Raises v o) h = (h.0, found_enters x (frame_of (v ∷ []) locals) classes at o.heap v m.program.handlers h.1)
flow_stays m x at classes locals (Halts o) h = tt

pub instruction_stays : (m : Method) (x : Assignment) → IsSound m x → IsWellFormed m.program → (at : ℕ) (op : Operation) → slice_get m.program.operations at ≡ Some op
    → KeepsAt m x at (x (suc at)) (Performs op)
instruction_stays m x sound formed at op there =
    λ classes frame outside fit.
    flow_stays m x at classes frame.locals (perform classes op frame outside) (instruction_keeps m x sound formed classes at op frame outside there fit)

-- ---- throws

throw_served : (m : Method) (x : Assignment) → IsSound m x → IsWellFormed m.program → (at : ℕ) (op : Operation) (sh : Shape) (f : Frame) (v : Value) (o : Outside)
    → slice_get m.program.operations at ≡ Some op → IsTrue (is_reference v) → FrameFits sh f → Passes m x at op (Has sh) → Serves m at op sh → FlowKeeps m x at f.locals (Raises v o)
throw_served m x sound formed at op sh f v o there r fit passes serves =
    let sends = served m x at op sh passes serves in
    flow_keeps m x sound formed at op sh (flow m.class at op sh) f (Raises v o) fit there serves.returns r tt sends.handlers

throw_known : (m : Method) (x : Assignment) → IsSound m x → IsWellFormed m.program → (at : ℕ) (op : Operation) (k : Known) (f : Frame) (v : Value) (o : Outside)
    → slice_get m.program.operations at ≡ Some op → IsTrue (is_reference v) → IsTrue (fits_known k f) → Passes m x at op k → (IsFaultOf m at op k → ⊥)
    → FlowKeeps m x at f.locals (Raises v o)
throw_known m x sound formed at op Nothing f v o there r fit passes whole = absurd cc
throw_known m x sound formed at op Broken f v o there r fit passes whole = absurd cc
throw_known m x sound formed at op (Has sh) f v o there r fit passes whole =
    flow_stable m x at f.locals (Raises v o)
    (λ never. whole (λ serves. never (throw_served m x sound formed at op sh f v o there r (to_frame sh f fit) passes serves)))

pub throw_stays : (m : Method) (x : Assignment) → IsSound m x → IsWellFormed m.program → (classes : Classes) (at : ℕ) (op : Operation) (f : Frame) (v : Value) (o : Outside)
    → slice_get m.program.operations at ≡ Some op → IsTrue (is_reference v) → IsTrue (fits_known (x at) f)
    → ThrowKeeps x (thrown_from m at classes o.heap v) v f.locals
throw_stays m x sound formed classes at op f v o there r fit =
    flow_stays m x at classes f.locals (Raises v o)
    (throw_known m x sound formed at op (x at) f v o there r fit (sound.closed.passes at op there) (λ fault. sound.whole at (record { operation = op; there = there; fault = fault })))
