-- What each instruction comes to has the shape that its own becomes.
use Rattle.std.proofs.Common.{◌≡◌, ℕ, suc, List, [], ◌∷◌, length, Option, Some, None, Bool, true, false, refl, sym, ap, subst}
use Rattle.std.specs.Prelude.{IsTrue, option_map, codes}
use Rattle.std.specs.Int.{w32, int_wrapping_add}
use Rattle.std.proofs.lemmas.List.{length-map}
use Rattle.je_base.specs.Text.{is_same_text}
use Rattle.je_consts.specs.declared.constant.MemberTag.{MemberTag}
use Rattle.je_desc.specs.FieldType.{FieldType, Array}
use Rattle.je_desc.specs.Descriptor.{MethodTypes}
use Rattle.je_machine.specs.Content.{Member}
use Rattle.je_machine.specs.Value.{Kind, IntKind, ReferenceKind, Value, Int, Long, Flt, Dbl, Null, Obj, Const, is_of_kind, kind_of, admit, value_at, number_of}
use Rattle.je_machine.specs.Classes.{Classes}
use Rattle.je_machine.specs.Condition.{condition_operands, is_met}
use Rattle.je_machine.specs.Action.{Action, LoadElement, GetField, GetStatic, Invoke, New, NewArray, CheckCast, Special, kind_of_element, operands_of, result_of}
use Rattle.je_machine.specs.Outside.{Outside, Response, Gave, Threw, Waits, throw_admitted}
use Rattle.je_machine.specs.Acting.{act}
use Rattle.je_machine.specs.Acts.{HasKept, GivesKind, is_result}
use Rattle.je_machine.specs.Operation.{Basic, Nop, Push, Drop, Copy, Swap, Act, Throw, Operation, Do, Load, Store, Increment, Branch, Goto, Switch, Return}
use Rattle.je_machine.specs.Frame.{Frame, frame_of, top, below, under, popped, push, stacked, flow_of, branch, perform, perform_basic, incremented, with_local}
use Rattle.je_machine.proofs.OutsideLemmas.{act_kept, act_gives, admit_is_of_kind}
use Rattle.je_shape.specs.Slot.{Slot}
use Rattle.je_shape.specs.Shape.{Shape, local_at}
use Rattle.je_shape.specs.Flow.{shape_of, slot_of_kind, slot_of_type, slot_of_value, top_item, below_top, under_items, pushed, forgot, constructor, constructor_of, constructor_if, given, left_by, acted, act_flow, flow_basic, flow}
use Rattle.je_shape.specs.Serves.{Wants, moved, StackMeets, ServesAct, ServesBasic, ServesOperation}
use Rattle.je_fit.specs.Fits.{fits_item, fits_shape, FlowFits}
use Rattle.je_fit.specs.Sound.{is_well_formed}
use Rattle.je_fit.proofs.FrameLemmas.{StackFits, LocalsFit, FrameFits, from_frame, item_fits, met_fits, kind_fits, of_kind, top_fits, below_fits, under_fits, under_target, behind_places, copied_fits, updated_fits, stored_fits, mapped_locals, forgot_fits, constructed_fits}

-- ---- results

-- a slot for a result of the kind, or neither
Gives : Option Slot → Option Kind → Type 0
Gives None None = Unit {0}
Gives (Some s) (Some k) = (v : Value) → IsTrue (is_of_kind k v) → IsTrue (fits_item s v)
Gives None (Some k) = ⊥
Gives (Some s) None = ⊥

kind_gives : (r : Option Kind) → Gives (option_map (λ kind. slot_of_kind kind []) r) r
unfolding Gives
kind_gives None = tt
kind_gives (Some k) = kind_fits k []

type_gives : (r : Option FieldType) → Gives (option_map slot_of_type r) (option_map kind_of r)
unfolding Gives
type_gives None = tt
type_gives (Some t) = kind_fits (kind_of t) _

array_gives : (at dimensions : ℕ) (t : FieldType) (s : List Slot) → IsTrue (is_well_formed (Do (Act (NewArray t dimensions)))) → Gives (given at (NewArray t dimensions) s) (Some ReferenceKind)
unfolding Gives
array_gives at dimensions (Array c) s h = λ v e. e
array_gives at dimensions t s h = absurd cc

action_gives : (at : ℕ) (a : Action) (s : List Slot) → IsTrue (is_well_formed (Do (Act a))) → Gives (given at a s) (result_of a)
unfolding Gives
action_gives at (LoadElement e) s h = kind_fits (kind_of_element e) _
action_gives at (GetField f) s h = kind_fits (kind_of f.type) _
action_gives at (GetStatic f) s h = kind_fits (kind_of f.type) _
action_gives at (Invoke sort method types) s h = type_gives types.result
action_gives at (New class) s h = λ v e. e
action_gives at (NewArray t dimensions) s h = array_gives at dimensions t s h
action_gives at (CheckCast class) s h = λ v e. e
action_gives at a s h = kind_gives (result_of a)

pushed_fits : (g : Option Slot) (k : Option Kind) (v : Option Value) (s : List Slot) (st : List Value) → Gives g k → IsTrue (is_result k v) → StackFits s st
    → StackFits (pushed g s) (push v st)
unfolding Gives
pushed_fits None None None s st g e h = h
pushed_fits None None (Some v) s st g e h = absurd cc
pushed_fits None (Some k) v s st g e h = absurd g
pushed_fits (Some x) None v s st g e h = absurd g
pushed_fits (Some x) (Some k) None s st g e h = absurd cc
pushed_fits (Some x) (Some k) (Some v) s st g e h = (g v e, h)

left_fits : (at : ℕ) (a : Action) (l : List Slot) (vs : List Value) → LocalsFit l vs → LocalsFit (left_by at a l) vs
left_fits at (New class) l vs h = mapped_locals (forgot at) (forgot_fits at) l (value_at vs) h
left_fits at a l vs h = h

acted_fits : (at : ℕ) (a : Action) (s : Shape) (f : Frame) (v : Option Value) → IsTrue (is_well_formed (Do (Act a))) → FrameFits s f → IsTrue (is_result (result_of a) v)
    → FrameFits (acted at a s) (frame_of (push v (under (length (operands_of a)) f.stack)) f.locals)
acted_fits at a s f v o h e =
    record {
      stack =
          pushed_fits (given at a s.stack) (result_of a) v _ _ (action_gives at a s.stack o) e
          (under_fits (length (operands_of a)) s.stack f.stack h.stack);
      locals = left_fits at a s.locals f.locals h.locals;
    }

-- ---- responses

response_fits : (o : Operation) (t : Shape) (k : Option Kind) (rest locals : List Value) (before : Outside) (r : Response)
    → ((v : Option Value) → IsTrue (is_result k v) → FrameFits t (frame_of (push v rest) locals))
    → GivesKind k r → HasKept before r → FlowFits o t (flow_of locals (stacked rest r))
response_fits o t k rest locals before (Gave v after) fit g h = from_frame t (frame_of (push v rest) locals) (fit v g)
response_fits o t k rest locals before (Threw v after) fit g h = h.1
response_fits o t k rest locals before (Waits after) fit g h = tt

-- a throw goes to no next instruction
throw_fits : (o : Operation) (t : Shape) (rest locals : List Value) (v : Value) (p : Outside) → IsTrue (is_of_kind ReferenceKind v) → FlowFits o t (flow_of locals (stacked rest (throw_admitted v p)))
throw_fits o t rest locals (Int n) p h = refl
throw_fits o t rest locals (Long n) p h = refl
throw_fits o t rest locals (Flt n) p h = refl
throw_fits o t rest locals (Dbl n) p h = refl
throw_fits o t rest locals Null p h = refl
throw_fits o t rest locals (Obj n) p h = refl
throw_fits o t rest locals (Const c) p h = h

-- ---- calls of constructors

-- each action is a call of a constructor, which gives nothing, or is not
by_name : (P : Action → Option (List ℕ × ℕ) → Type 0) (a : Action) (class : List ℕ) (count : ℕ) → P a None → P a (Some (class, count)) → (b : Bool) → P a (constructor_if b class count)
by_name P a class count none some true = some
by_name P a class count none some false = none

abbrev Call : MemberTag → List ℕ → List ℕ → List ℕ → MethodTypes → Action
Call tag class name text types = Invoke Special (Member tag class name text) types

by_result : (P : Action → Option (List ℕ × ℕ) → Type 0) → ((a : Action) → P a None)
    → ((tag : MemberTag) (class name text : List ℕ) (types : MethodTypes) → types.result ≡ None → P (Call tag class name text types) (Some (class, length types.params)))
    → (tag : MemberTag) (class name text : List ℕ) (types : MethodTypes) (r : Option FieldType) → types.result ≡ r
    → P (Call tag class name text types) (constructor_of r name class (length types.params))
by_result P none some tag class name text types None e =
    let a = Call tag class name text types in
    by_name P a class (length types.params) (none a) (some tag class name text types e) (is_same_text name (codes "<init>"))
by_result P none some tag class name text types (Some t) e = none (Call tag class name text types)

by_constructor : (P : Action → Option (List ℕ × ℕ) → Type 0) → ((a : Action) → P a None)
    → ((tag : MemberTag) (class name text : List ℕ) (types : MethodTypes) → types.result ≡ None → P (Call tag class name text types) (Some (class, length types.params)))
    → (a : Action) → P a (constructor a)
by_constructor P none some (Invoke Special (Member tag class name text) types) = by_result P none some tag class name text types types.result refl
by_constructor P none some a = none a

no_result : (r : Option FieldType) (v : Option Value) → r ≡ None → IsTrue (is_result (option_map kind_of r) v) → None ≡ v
no_result None None e h = refl
no_result None (Some v) e h = absurd cc
no_result (Some t) v e h = absurd cc

-- ---- actions

ActFits : List Operation → List ℕ → ℕ → Classes → Shape → Frame → Outside → Action → Option (List ℕ × ℕ) → Type 0
ActFits ops own at classes s f o a call =
    IsTrue (is_well_formed (Do (Act a))) → ServesAct ops at a call s.stack
    → FlowFits (Do (Act a)) (act_flow own at a call s) (flow_of f.locals (perform_basic classes (Act a) f.stack o))

plain_fits : (ops : List Operation) (own : List ℕ) (at : ℕ) (classes : Classes) (s : Shape) (f : Frame) (o : Outside) → FrameFits s f → (a : Action) → ActFits ops own at classes s f o a None
unfolding ActFits
plain_fits ops own at classes s f o h a operands serves =
    let count = length (operands_of a) in
    response_fits (Do (Act a)) (acted at a s) (result_of a) (under count f.stack) f.locals o (act classes a (popped count f.stack) o)
    (λ v e. acted_fits at a s f v operands h e) (act_gives classes a (popped count f.stack) o) (act_kept classes a (popped count f.stack) o)

call_fits : (ops : List Operation) (own : List ℕ) (at : ℕ) (classes : Classes) (s : Shape) (f : Frame) (o : Outside) → FrameFits s f
    → (tag : MemberTag) (class name text : List ℕ) (types : MethodTypes) → types.result ≡ None
    → ActFits ops own at classes s f o (Call tag class name text types) (Some (class, length types.params))
unfolding ActFits
call_fits ops own at classes s f o h tag class name text types e operands serves =
    let a = Call tag class name text types in
    let n = length types.params in
    let count = length (operands_of a) in
    let wide : count ≡ suc n = ap suc (length-map types.params kind_of) in
    let target = under_items n s.stack in
    let P : ℕ → Type 0 = λ c. StackFits (below_top target) (under c f.stack) in
    let rest : P count = subst P (sym wide) (under_target n s.stack f.stack h.stack) in
    let t = shape_of (below_top target) s.locals in
    let Q : Option Value → Type 0 = λ v. FrameFits t (frame_of (push v (under count f.stack)) f.locals) in
    let bare : Q None = record { stack = rest; locals = h.locals } in
    response_fits (Do (Act a)) (act_flow own at a (Some (class, n)) s) (result_of a) (under count f.stack) f.locals o (act classes a (popped count f.stack) o)
    (λ v r. constructed_fits ops own class (top_item target) t _ serves.1 (subst Q (no_result types.result v e r) bare))
    (act_gives classes a (popped count f.stack) o) (act_kept classes a (popped count f.stack) o)

act_fits : (ops : List Operation) (own : List ℕ) (at : ℕ) (classes : Classes) (s : Shape) (f : Frame) (o : Outside) → FrameFits s f → (a : Action) → ActFits ops own at classes s f o a (constructor a)
act_fits ops own at classes s f o h a =
    by_constructor (ActFits ops own at classes s f o) (plain_fits ops own at classes s f o h) (call_fits ops own at classes s f o h) a

-- ---- what works on the stack alone

stack_only : (s : Shape) (f : Frame) (a : List Slot) (b : List Value) → FrameFits s f → StackFits a b → IsTrue (fits_shape (shape_of a s.locals) (frame_of b f.locals))
stack_only s f a b h k = from_frame (shape_of a s.locals) (frame_of b f.locals) (record { stack = k; locals = h.locals })

swapped_fits : (s : List Slot) (st : List Value) (ops : List Operation) (at : ℕ) → StackFits s st → ServesBasic ops at Swap s
    → StackFits (top_item (below_top s) ∷ top_item s ∷ below_top (below_top s)) (top (below st) ∷ top st ∷ below (below st))
swapped_fits [] st ops at h k = absurd k.0
swapped_fits (x ∷ s) [] ops at h k = absurd h
swapped_fits (x ∷ []) (v ∷ st) ops at h k = absurd k.1
swapped_fits (x ∷ y ∷ s) (v ∷ []) ops at h k = absurd h.1
swapped_fits (x ∷ y ∷ s) (v ∷ w ∷ st) ops at h k = (h.1.0, (h.0, h.1.1))

basic_fits : (ops : List Operation) (own : List ℕ) (at : ℕ) (classes : Classes) (s : Shape) (f : Frame) (o : Outside) (b : Basic) → IsTrue (is_well_formed (Do b)) → ServesBasic ops at b s.stack
    → FrameFits s f → FlowFits (Do b) (flow_basic own at b s) (flow_of f.locals (perform_basic classes b f.stack o))
unfolding ActFits
basic_fits ops own at classes s f o Nop operands k h = from_frame s f h
basic_fits ops own at classes s f o (Push v) operands k h = stack_only s f (slot_of_value v ∷ s.stack) (v ∷ f.stack) h (operands, h.stack)
basic_fits ops own at classes s f o (Drop p) operands k h = stack_only s f _ _ h (behind_places p s.stack f.stack h.stack)
basic_fits ops own at classes s f o (Copy p d) operands k h = stack_only s f _ _ h (copied_fits p d s.stack f.stack h.stack)
basic_fits ops own at classes s f o Swap operands k h =
    let shape = top_item (below_top s.stack) ∷ top_item s.stack ∷ below_top (below_top s.stack) in
    stack_only s f shape (top (below f.stack) ∷ top f.stack ∷ below (below f.stack)) h (swapped_fits s.stack f.stack ops at h.stack k)
basic_fits ops own at classes s f o (Act a) operands k h = act_fits ops own at classes s f o h a operands k
basic_fits ops own at classes s f o Throw operands k h =
    throw_fits (Do Throw) (shape_of (below_top s.stack) s.locals) (below f.stack) f.locals (admit ReferenceKind (top f.stack)) o (admit_is_of_kind ReferenceKind (top f.stack))

-- ---- the whole

branch_fits : (op : Operation) (t : Shape) (b : Bool) (target : ℕ) (f : Frame) (o : Outside) → IsTrue (fits_shape t f) → FlowFits op t (branch b target f o)
branch_fits op t true target f o h = h
branch_fits op t false target f o h = h

-- what stands on the stack where a kind is wanted is of the kind
wanted_fits : (k : Kind) (s : List Slot) (st : List Value) → StackMeets (Wants k ∷ []) s → StackFits s st → IsTrue (is_of_kind k (top st))
wanted_fits k [] st m h = absurd m
wanted_fits k (x ∷ s) [] m h = absurd h
wanted_fits k (x ∷ s) (v ∷ st) m h = subst (λ b. IsTrue b) (of_kind k x m.0 v) (item_fits x v h.0)

pub perform_fits : (ops : List Operation) (own : List ℕ) (at : ℕ) (classes : Classes) (op : Operation) (s : Shape) (f : Frame) (o : Outside) → IsTrue (is_well_formed op)
    → ServesOperation ops at op s → FrameFits s f → FlowFits op (flow own at op s) (perform classes op f o)
perform_fits ops own at classes (Do b) s f o operands k h = basic_fits ops own at classes s f o b operands k h
perform_fits ops own at classes (Load kind slot) s f o operands k h =
    stack_only s f (local_at s.locals slot ∷ s.stack) (value_at f.locals slot ∷ f.stack) h
    (met_fits (moved kind) (local_at s.locals slot) (value_at f.locals slot) k (h.locals slot), h.stack)
perform_fits ops own at classes (Store kind slot) s f o operands k h =
    from_frame _ _
    (record {
      stack = below_fits s.stack f.stack h.stack;
      locals = stored_fits slot (top_item s.stack) (top f.stack) s.locals f.locals h.locals (top_fits s.stack f.stack h.stack);
    })
perform_fits ops own at classes (Increment slot by) s f o operands k h =
    let v = incremented by (value_at f.locals slot) in
    let e = admit_is_of_kind IntKind (Int (int_wrapping_add w32 (number_of (admit IntKind (value_at f.locals slot))) by)) in
    from_frame s (frame_of f.stack (with_local f.locals slot v))
    (record {
      stack = h.stack;
      locals = updated_fits s.locals f.locals slot v h.locals (subst (λ b. IsTrue b) (sym (of_kind IntKind (local_at s.locals slot) k v)) e);
    })
perform_fits ops own at classes (Branch c target) s f o operands k h =
    let count = length (condition_operands c) in
    branch_fits (Branch c target) (shape_of (under_items count s.stack) s.locals) (is_met c (popped count f.stack)) target (frame_of (under count f.stack) f.locals) o
    (stack_only s f _ _ h (under_fits count s.stack f.stack h.stack))
perform_fits ops own at classes (Goto target) s f o operands k h = from_frame s f h
perform_fits ops own at classes (Switch cases fallback) s f o operands k h = stack_only s f _ _ h (below_fits s.stack f.stack h.stack)
perform_fits ops own at classes (Return None) s f o operands k h = refl
perform_fits ops own at classes (Return (Some kind)) s f o operands k h = wanted_fits kind s.stack f.stack k h.stack
