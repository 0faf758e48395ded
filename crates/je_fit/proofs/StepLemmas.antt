-- Each step keeps to the shapes: what comes to an index fits what is known there.
use Rattle.std.proofs.Common.{◌≡◌, ℕ, zero, suc, ◌<◌, ◌≤◌, List, [], ◌∷◌, length, map, Option, Some, None, Bool, true, false, ◌&&◌, ◌||◌, ◌⊎◌, inl, inr, refl, sym, ap, subst, ◌∙◌, arith}
use Rattle.std.specs.Prelude.{IsTrue, ℤ, cond, option_map, unwrap_or, slice_get}
use Rattle.std.specs.Ordering.{int_eq}
use Rattle.std.specs.List.{AllByRecursion, find, list_any}
use Rattle.je_machine.specs.Value.{Kind, ReferenceKind, Value, Int, Long, Flt, Dbl, Null, Obj, Const, is_of_kind, admit, number_of}
use Rattle.je_machine.specs.Classes.{Classes}
use Rattle.je_machine.specs.Condition.{condition_operands, is_met}
use Rattle.je_machine.specs.Action.{operands_of}
use Rattle.je_machine.specs.Outside.{Outside, Response, Gave, Threw, Waits, throw_admitted}
use Rattle.je_machine.specs.Acting.{act}
use Rattle.je_machine.specs.Acts.{is_reference, is_result}
use Rattle.je_machine.specs.Operation.{Nop, Push, Drop, Copy, Swap, Act, Throw, Operation, Do, Load, Store, Increment, Branch, Goto, Switch, Return, Handler}
use Rattle.je_machine.specs.Frame.{Frame, frame_of, top, below, under, popped, stacked, Flow, Falls, Jumps, Leaves, Raises, Halts, flow_of, branch, chosen_case, perform}
use Rattle.je_machine.specs.Step.{Ending, Returned, Thrown}
use Rattle.je_machine.specs.Machine.{State, covers, catches, is_handler_of, catcher, enter_handler, follow, perform_at, take_step}
use Rattle.je_shape.specs.Slot.{Slot, Top, Is, Reference, IsBelow, IsItemBelow}
use Rattle.je_shape.specs.Shape.{Shape, local_at, StackBelow, ShapeBelow, Known, Nothing, Has, Broken, KnownBelow}
use Rattle.je_shape.specs.Flow.{flow}
use Rattle.je_shape.specs.Least.{Method, successors, caught, ItemAgrees, LocalAgrees, StackAgrees, Agrees, frame_at, Assignment, IsBroken, Arrives, Reaches, ReturnsAs, Serves, Passes, IsFaultOf}
use Rattle.je_shape.proofs.DecidedLemmas.{served}
use Rattle.je_fit.specs.Fits.{fits, fits_item, fits_known, is_return_of, FlowFits, GoesTo}
use Rattle.je_fit.specs.Sound.{is_well_formed, IsWellFormed, IsSound, is_declared, EndFits, CatchFits, FlowKeeps, StepFits}
use Rattle.je_fit.proofs.FrameLemmas.{StackFits, FrameFits, to_frame, from_frame}
use Rattle.je_fit.proofs.FlowLemmas.{perform_fits}

-- ---- a frame fits what agrees with its shape

item_agrees : (s t : Slot) (v : Value) → ItemAgrees s t → IsTrue (fits_item s v) → IsTrue (fits_item t v)
item_agrees Top Top v a h = h
item_agrees (Is w) (Is u) v a h = subst (λ x. IsTrue (fits_item (Is x) v)) a h
item_agrees (Reference few) (Reference many) v a h = h
item_agrees _ _ v a h = absurd a

local_agrees : (s t : Slot) (v : Value) → LocalAgrees s t → IsTrue (fits s v) → IsTrue (fits t v)
local_agrees s Top v a h = refl
local_agrees (Is w) (Is u) v a h = subst (λ x. IsTrue (fits (Is x) v)) a h
local_agrees (Reference few) (Reference many) v a h = h
local_agrees _ _ v a h = absurd a

stack_agrees : (s t : List Slot) (st : List Value) → StackAgrees s t → StackFits s st → StackFits t st
stack_agrees [] [] st a h = h
stack_agrees [] (y ∷ t) st a h = absurd a
stack_agrees (x ∷ s) [] st a h = absurd a
stack_agrees (x ∷ s) (y ∷ t) [] a h = absurd h
stack_agrees (x ∷ s) (y ∷ t) (v ∷ st) a h = (item_agrees x y v a.0 h.0, stack_agrees s t st a.1 h.1)

pub agreeing_fits : (s t : Shape) (f : Frame) → Agrees s t → FrameFits s f → FrameFits t f
agreeing_fits s t f a h =
    record {
      stack = stack_agrees s.stack t.stack f.stack a.stack h.stack;
      locals = λ i. local_agrees (local_at s.locals i) (local_at t.locals i) _ (a.locals i) (h.locals i);
    }

-- what is below agrees
below_item : (s t : Slot) → IsItemBelow s t → ItemAgrees s t
below_item Top Top h = tt
below_item (Is w) (Is u) h = h
below_item (Reference few) (Reference many) h = tt
below_item _ _ h = absurd h

below_local : (s t : Slot) → IsBelow s t → LocalAgrees s t
below_local s Top h = tt
below_local (Is w) (Is u) h = h
below_local (Reference few) (Reference many) h = tt
below_local _ _ h = absurd h

below_stack : (s t : List Slot) → StackBelow s t → StackAgrees s t
below_stack [] [] h = tt
below_stack [] (y ∷ t) h = absurd h
below_stack (x ∷ s) [] h = absurd h
below_stack (x ∷ s) (y ∷ t) h = (below_item x y h.0, below_stack s t h.1)

below_agrees : (s t : Shape) → ShapeBelow s t → Agrees s t
below_agrees s t h =
    record {
      stack = below_stack s.stack t.stack h.stack;
      locals = λ i. below_local (local_at s.locals i) (local_at t.locals i) (h.locals i);
    }

pub below_fits : (s t : Shape) (f : Frame) → ShapeBelow s t → FrameFits s f → FrameFits t f
below_fits s t f h k = agreeing_fits s t f (below_agrees s t h) k

-- ---- what comes to an index

known_fits : (s : Shape) (k : Known) (f : Frame) → FrameFits s f → (IsBroken k → ⊥) → KnownBelow (Has s) k → IsTrue (fits_known k f)
known_fits s Nothing f h n b = absurd b
known_fits s (Has t) f h n b = from_frame t f (below_fits s t f b h)
known_fits s Broken f h n b = absurd (n tt)

arrival_fits : (old : Option Shape) (s : Shape) (k : Known) (f : Frame) → FrameFits s f → (IsBroken k → ⊥) → Arrives old (Has s) k → IsTrue (fits_known k f)
arrival_fits None s k f h n a = known_fits s k f h n a
arrival_fits (Some t) s k f h n (inl a) = known_fits t k f (agreeing_fits s t f a.0 h) n a.1
arrival_fits (Some t) s k f h n (inr b) = absurd (n b)

pub there_at : (ops : List Operation) (at : ℕ) → at < length ops → (o : Operation) × (slice_get ops at ≡ Some o)
there_at [] at h = absurd (omega (arith, h))
there_at (o ∷ ops) zero h = (o, refl)
there_at (o ∷ ops) (suc at) h = there_at ops at (omega (arith, h))

broken_fault : (m : Method) (at : ℕ) (o : Operation) (k : Known) → IsBroken k → IsFaultOf m at o k
broken_fault m at o Nothing b = absurd b
broken_fault m at o (Has s) b = absurd b
broken_fault m at o Broken b = tt

not_broken : (m : Method) (x : Assignment) → IsSound m x → (to : ℕ) → to < length m.program.operations → IsBroken (x to) → ⊥
not_broken m x sound to inside b =
    let o = there_at m.program.operations to inside in
    sound.whole to (record { operation = o.0; there = o.1; fault = broken_fault m to o.0 (x to) b })

pub reached_fits : (m : Method) (x : Assignment) → IsSound m x → (to : ℕ) (s : Shape) (f : Frame) → FrameFits s f → to < length m.program.operations → Reaches m x to (Has s)
    → IsTrue (fits_known (x to) f)
reached_fits m x sound to s f h inside reaches = arrival_fits (frame_at m.frames to) s (x to) f h (not_broken m x sound to inside) (reaches inside)

-- ---- where a flow leads

throw_leads : (P : ℕ → Type 0) (next : ℕ) (rest locals : List Value) (v : Value) (o : Outside) → GoesTo P next (flow_of locals (stacked rest (throw_admitted v o)))
throw_leads P next rest locals (Int n) o = tt
throw_leads P next rest locals (Long n) o = tt
throw_leads P next rest locals (Flt n) o = tt
throw_leads P next rest locals (Dbl n) o = tt
throw_leads P next rest locals Null o = tt
throw_leads P next rest locals (Obj n) o = tt
throw_leads P next rest locals (Const c) o = tt

response_leads : (P : ℕ → Type 0) (next : ℕ) (rest locals : List Value) (r : Response) → P next → GoesTo P next (flow_of locals (stacked rest r))
response_leads P next rest locals (Gave v after) h = h
response_leads P next rest locals (Threw v after) h = tt
response_leads P next rest locals (Waits after) h = tt

branch_leads : (P : ℕ → Type 0) (next : ℕ) (b : Bool) (target : ℕ) (f : Frame) (o : Outside) → P next → P target → GoesTo P next (branch b target f o)
branch_leads P next true target f o h k = k
branch_leads P next false target f o h k = h

either_case : (P : ℕ → Type 0) (b : Bool) (c : ℤ × ℕ) (rest : Option (ℤ × ℕ)) (fallback : ℕ) → P c.1 → P (unwrap_or (option_map (λ (c : ℤ × ℕ). c.1) rest) fallback)
    → P (unwrap_or (option_map (λ (c : ℤ × ℕ). c.1) (cond b (Some c) rest)) fallback)
either_case P true c rest fallback h k = h
either_case P false c rest fallback h k = k

case_leads : (P : ℕ → Type 0) (cases : List (ℤ × ℕ)) (fallback : ℕ) (key : ℤ) → P fallback → AllByRecursion P (map (λ (c : ℤ × ℕ). c.1) cases) → P (chosen_case cases fallback key)
case_leads P [] fallback key h k = h
case_leads P (c ∷ cases) fallback key h k =
    either_case P (int_eq c.0 key) c (find (λ (c : ℤ × ℕ). int_eq c.0 key) cases) fallback k.0 (case_leads P cases fallback key h k.1)

-- it goes on at a successor
pub leads : (P : ℕ → Type 0) (at : ℕ) (classes : Classes) (op : Operation) (f : Frame) (o : Outside) → AllByRecursion P (successors at op) → GoesTo P (suc at) (perform classes op f o)
leads P at classes (Do Nop) f o h = h.0
leads P at classes (Do (Push v)) f o h = h.0
leads P at classes (Do (Drop p)) f o h = h.0
leads P at classes (Do (Copy p d)) f o h = h.0
leads P at classes (Do Swap) f o h = h.0
leads P at classes (Do (Act a)) f o h =
    let count = length (operands_of a) in
    response_leads P (suc at) (under count f.stack) f.locals (act classes a (popped count f.stack) o) h.0
leads P at classes (Do Throw) f o h = throw_leads P (suc at) (below f.stack) f.locals (admit ReferenceKind (top f.stack)) o
leads P at classes (Load kind slot) f o h = h.0
leads P at classes (Store kind slot) f o h = h.0
leads P at classes (Increment slot by) f o h = h.0
leads P at classes (Branch c target) f o h =
    let count = length (condition_operands c) in
    branch_leads P (suc at) (is_met c (popped count f.stack)) target (frame_of (under count f.stack) f.locals) o h.0 h.1.0
leads P at classes (Goto target) f o h = h.0
leads P at classes (Switch cases fallback) f o h = case_leads P cases fallback (number_of (top f.stack)) h.0 h.1
leads P at classes (Return None) f o h = tt
leads P at classes (Return (Some kind)) f o h = tt

-- ---- handlers

reference_of : (v : Value) → IsTrue (is_reference v) → IsTrue (is_of_kind ReferenceKind v)
reference_of (Int n) h = absurd cc
reference_of (Long n) h = absurd cc
reference_of (Flt n) h = absurd cc
reference_of (Dbl n) h = absurd cc
reference_of Null h = absurd cc
reference_of (Obj n) h = refl
reference_of (Const c) h = h

pub handler_fits : (h : Handler) (s : Shape) (f : Frame) (v : Value) → IsTrue (is_reference v) → FrameFits s f → FrameFits (caught h s) (frame_of (v ∷ []) f.locals)
handler_fits h s f v r fit = record { stack = (reference_of v r, tt); locals = fit.locals }

-- ---- returns

either_true : (b c : Bool) → (b ≡ true) ⊎ (c ≡ true) → b || c ≡ true
either_true true c h = refl
either_true false c (inl h) = absurd cc
either_true false c (inr h) = h

any_there : (p : Operation → Bool) (ops : List Operation) (at : ℕ) (o : Operation) → slice_get ops at ≡ Some o → p o ≡ true → list_any p ops ≡ true
any_there p [] at o e h = absurd cc
any_there p (q ∷ ops) zero o e h = let f : q ≡ o = cc in either_true (p q) (list_any p ops) (inl (ap p f ∙ h))
any_there p (q ∷ ops) (suc at) o e h = either_true (p q) (list_any p ops) (inr (any_there p ops at o e h))

declared : (r : Option (Option Kind)) (o : Operation) (result : Option Value) → ReturnsAs r o → IsTrue (is_return_of result o) → IsTrue (is_declared r result)
declared None o result e h = refl
declared (Some kind) (Return k) result e h = subst (λ k. IsTrue (is_result k result)) e h
declared (Some kind) o result e h = absurd cc

-- ---- an instruction that its shape serves

-- what each of a list has, by what two others have
all_by : {A : Type 0} (P Q R : A → Type 0) (xs : List A) → ((x : A) → P x → Q x → R x) → AllByRecursion P xs → AllByRecursion Q xs → AllByRecursion R xs
all_by P Q R [] f h k = tt
all_by P Q R (x ∷ xs) f h k = (f x h.0 k.0, all_by P Q R xs f h.1 k.1)

-- the index is of the code, and what is known there is above the shape
abbrev Comes : Method → Assignment → Shape → ℕ → Type 0
Comes m x t to = (to < length m.program.operations) × Reaches m x to (Has t)

pub flow_keeps : (m : Method) (x : Assignment) → IsSound m x → IsWellFormed m.program → (at : ℕ) (op : Operation) (s t : Shape) (before : Frame) (flow : Flow)
    → FrameFits s before → slice_get m.program.operations at ≡ Some op → ReturnsAs m.result op
    → FlowFits op t flow → GoesTo (Comes m x t) (suc at) flow
    → AllByRecursion (λ (h : Handler). IsTrue (covers at h) → Reaches m x h.target (Has (caught h s))) m.program.handlers
    → FlowKeeps m x at before.locals flow
flow_keeps m x sound formed at op s t before (Falls f o) h there returns fit goes handlers = reached_fits m x sound (suc at) t f (to_frame t f fit) goes.0 goes.1
flow_keeps m x sound formed at op s t before (Jumps target f o) h there returns fit goes handlers = reached_fits m x sound target t f (to_frame t f fit) goes.0 goes.1
flow_keeps m x sound formed at op s t before (Leaves result o) h there returns fit goes handlers =
    (any_there (is_return_of result) m.program.operations at op there fit, declared m.result op result returns fit)
flow_keeps m x sound formed at op s t before (Raises v o) h there returns fit goes handlers = (
  fit,
  all_by (λ (e : Handler). e.target < length m.program.operations) (λ (e : Handler). IsTrue (covers at e) → Reaches m x e.target (Has (caught e s)))
      (CatchFits x at (frame_of (v ∷ []) before.locals)) m.program.handlers
      (λ e inside reaches covered. reached_fits m x sound e.target (caught e s) (frame_of (v ∷ []) before.locals) (handler_fits e s before v fit h) inside (reaches covered))
      formed.handlers handlers,
)
flow_keeps m x sound formed at op s t before (Halts o) h there returns fit goes handlers = tt

all_at : {A : Type 0} (P : A → Type 0) (xs : List A) (at : ℕ) (x : A) → AllByRecursion P xs → slice_get xs at ≡ Some x → P x
all_at P [] at x h e = absurd cc
all_at P (y ∷ xs) zero x h e = let f : y ≡ x = cc in subst P f h.0
all_at P (y ∷ xs) (suc at) x h e = all_at P xs at x h.1 e

served_keeps : (m : Method) (x : Assignment) → IsSound m x → IsWellFormed m.program → (classes : Classes) (at : ℕ) (op : Operation) (sh : Shape) (f : Frame) (o : Outside)
    → slice_get m.program.operations at ≡ Some op → FrameFits sh f → Passes m x at op (Has sh) → Serves m at op sh
    → FlowKeeps m x at f.locals (perform classes op f o)
served_keeps m x sound formed classes at op sh f o there fit passes serves =
    let t = flow m.class at op sh in
    let sends = served m x at op sh passes serves in
    let goes =
    all_by (λ to. to < length m.program.operations) (λ to. Reaches m x to (Has t)) (Comes m x t) (successors at op)
    (λ to i r. (i, r)) serves.inside sends.successors
    in
    flow_keeps m x sound formed at op sh t f (perform classes op f o) fit there serves.returns
    (perform_fits m.program.operations m.class at classes op sh f o (all_at (λ o. IsTrue (is_well_formed o)) m.program.operations at op formed.operands there) serves.shape fit)
    (leads (Comes m x t) at classes op f o goes) sends.handlers

-- ---- that an instruction is served is not refuted where it is no fault, and what fits is decided

pub stable : (b : Bool) → ((IsTrue b → ⊥) → ⊥) → IsTrue b
stable true h = refl
stable false h = absurd (h (λ e. absurd cc))

pub end_stable : (m : Method) (e : Ending) → ((EndFits m e → ⊥) → ⊥) → EndFits m e
end_stable m (Returned result) h = (
  stable (list_any (is_return_of result) m.program.operations) (λ n. h (λ f. n f.0)),
  stable (is_declared m.result result) (λ n. h (λ f. n f.1)),
)
end_stable m (Thrown v) h = stable (is_reference v) h

catch_stable : (x : Assignment) (at : ℕ) (f : Frame) (hs : List Handler) → ((AllByRecursion (CatchFits x at f) hs → ⊥) → ⊥) → AllByRecursion (CatchFits x at f) hs
catch_stable x at f [] h = tt
catch_stable x at f (e ∷ hs) h = (
  λ covered. stable (fits_known (x e.target) f) (λ n. h (λ k. n (k.0 covered))),
  catch_stable x at f hs (λ n. h (λ k. n k.1)),
)

pub flow_stable : (m : Method) (x : Assignment) (at : ℕ) (locals : List Value) (flow : Flow) → ((FlowKeeps m x at locals flow → ⊥) → ⊥) → FlowKeeps m x at locals flow
flow_stable m x at locals (Falls f o) h = stable (fits_known (x (suc at)) f) h
flow_stable m x at locals (Jumps target f o) h = stable (fits_known (x target) f) h
flow_stable m x at locals (Leaves result o) h = end_stable m (Returned result) h
flow_stable m x at locals (Raises v o) h = (
  end_stable m (Thrown v) (λ n. h (λ k. n k.0)),
  catch_stable x at (frame_of (v ∷ []) locals) m.program.handlers (λ n. h (λ k. n k.1)),
)
flow_stable m x at locals (Halts o) h = tt

known_keeps : (m : Method) (x : Assignment) → IsSound m x → IsWellFormed m.program → (classes : Classes) (at : ℕ) (op : Operation) (k : Known) (f : Frame) (o : Outside)
    → slice_get m.program.operations at ≡ Some op → IsTrue (fits_known k f) → Passes m x at op k → (IsFaultOf m at op k → ⊥)
    → FlowKeeps m x at f.locals (perform classes op f o)
known_keeps m x sound formed classes at op Nothing f o there fit passes whole = absurd cc
known_keeps m x sound formed classes at op Broken f o there fit passes whole = absurd cc
known_keeps m x sound formed classes at op (Has sh) f o there fit passes whole =
    flow_stable m x at f.locals (perform classes op f o)
    (λ no. whole (λ serves. no (served_keeps m x sound formed classes at op sh f o there (to_frame sh f fit) passes serves)))

pub instruction_keeps : (m : Method) (x : Assignment) → IsSound m x → IsWellFormed m.program → (classes : Classes) (at : ℕ) (op : Operation) (f : Frame) (o : Outside)
    → slice_get m.program.operations at ≡ Some op → IsTrue (fits_known (x at) f) → FlowKeeps m x at f.locals (perform classes op f o)
instruction_keeps m x sound formed classes at op f o there fit =
    known_keeps m x sound formed classes at op (x at) f o there fit (sound.closed.passes at op there)
    (λ fault. sound.whole at (record { operation = op; there = there; fault = fault }))

-- ---- the step that follows it

EnterFits : Method → Assignment → ℕ → Value → List Value → Outside → Option Handler → Type 0
EnterFits m x left v locals o h = StepFits m x (enter_handler (option_map (λ (e : Handler). e.target) h) left v locals o)

either_handler : (m : Method) (x : Assignment) (left : ℕ) (v : Value) (locals : List Value) (o : Outside) (b c : Bool) (h : Handler) (rest : Option Handler)
    → (b ≡ true → IsTrue (fits_known (x h.target) (frame_of (v ∷ []) locals))) → EnterFits m x left v locals o rest → EnterFits m x left v locals o (cond (b && c) (Some h) rest)
unfolding EnterFits
either_handler m x left v locals o true true h rest enters k = enters refl
either_handler m x left v locals o true false h rest enters k = k
either_handler m x left v locals o false c h rest enters k = k

-- the handler that is found covers the index
thrown_fits : (m : Method) (x : Assignment) (classes : Classes) (at left : ℕ) (v : Value) (locals : List Value) (o : Outside) (hs : List Handler) → IsTrue (is_reference v)
    → AllByRecursion (CatchFits x at (frame_of (v ∷ []) locals)) hs → EnterFits m x left v locals o (find (is_handler_of classes o.heap v at) hs)
unfolding EnterFits
thrown_fits m x classes at left v locals o [] r enters = r
thrown_fits m x classes at left v locals o (h ∷ hs) r enters =
    either_handler m x left v locals o (covers at h) (catches classes o.heap v h.catch_class) h (find (is_handler_of classes o.heap v at) hs) enters.0
    (thrown_fits m x classes at left v locals o hs r enters.1)

follow_fits : (m : Method) (x : Assignment) (classes : Classes) (at left : ℕ) (locals : List Value) (flow : Flow) → FlowKeeps m x at locals flow
    → StepFits m x (follow (suc at) (catcher m.program.handlers classes at) left locals flow)
unfolding EnterFits
follow_fits m x classes at left locals (Falls f o) h = h
follow_fits m x classes at left locals (Jumps target f o) h = h
follow_fits m x classes at left locals (Leaves result o) h = h
follow_fits m x classes at left locals (Raises v o) h = thrown_fits m x classes at left v locals o m.program.handlers h.0 h.1
follow_fits m x classes at left locals (Halts o) h = tt

-- ---- the whole

nothing_fits : (k : Known) (f : Frame) → k ≡ Nothing → IsTrue (fits_known k f) → ⊥
nothing_fits Nothing f e h = absurd cc
nothing_fits (Has s) f e h = absurd cc
nothing_fits Broken f e h = absurd cc

pub never_nothing : (x : Assignment) (s : State) → IsTrue (fits_known (x s.place) s.frame) → x s.place ≡ Nothing → ⊥
never_nothing x s h e = nothing_fits (x s.place) s.frame e h

pub inside_code : (m : Method) (x : Assignment) → IsSound m x → (s : State) → IsTrue (fits_known (x s.place) s.frame) → s.place < length m.program.operations
inside_code m x sound s h =
    let no : length m.program.operations ≤ s.place → ⊥ = λ le. never_nothing x s h (sound.behind s.place le) in
    omega (arith, no)

pub step_fits : (m : Method) (x : Assignment) → IsSound m x → IsWellFormed m.program → (classes : Classes) (left : ℕ) (s : State) → IsTrue (fits_known (x s.place) s.frame)
    → StepFits m x (take_step m.program classes (suc left) s)
step_fits m x sound formed classes left s h =
    let there = there_at m.program.operations s.place (inside_code m x sound s h) in
    let P : Option Operation → Type 0 = λ o. StepFits m x (perform_at classes (suc s.place) (catcher m.program.handlers classes s.place) left o s) in
    subst P (sym there.1)
    (follow_fits m x classes s.place left s.frame.locals (perform classes there.0 s.frame s.outside)
    (instruction_keeps m x sound formed classes s.place there.0 s.frame s.outside there.1 h))
