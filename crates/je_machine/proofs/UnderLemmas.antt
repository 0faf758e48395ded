-- What lies under the operands is neither read nor changed.
use Rattle.std.proofs.Common.{◌≡◌, ℕ, zero, suc, ◌-◌, ◌≤◌, List, [], ◌∷◌, ◌++◌, length, Option, Some, None, Bool, true, false, refl, sym, ap, ◌∙◌, arith, append_assoc}
use Rattle.std.specs.Prelude.{IsTrue}
use Rattle.je_machine.specs.Value.{Value, places_of}
use Rattle.je_machine.specs.Classes.{Classes}
use Rattle.je_machine.specs.Condition.{condition_operands, is_met}
use Rattle.je_machine.specs.Action.{operands_of}
use Rattle.je_machine.specs.Outside.{Outside, Response, Gave, Threw, Waits, throw_reference}
use Rattle.je_machine.specs.Acting.{act}
use Rattle.je_machine.specs.Operation.{Basic, Nop, Push, Drop, Copy, Swap, Act, Throw, Operation, Do, Load, Store, Increment, Branch, Goto, Switch, Return}
use Rattle.je_machine.specs.Frame.{stacked, push, perform_basic, Falls, frame_of, flow_of, branch, perform, popped, under, top_places, under_places, copied}
use Rattle.je_machine.specs.Under.{has_places, HasBasicOperands, HasOperands, over}

popped_over : (k : ℕ) (s u : List Value) → k ≤ length s → popped k (s ++ u) ≡ popped k s
popped_over zero s u le = refl
popped_over (suc k) [] u le = absurd (omega arith)
popped_over (suc k) (x ∷ s) u le = ap (λ (l : List Value). l ++ x ∷ []) (popped_over k s u (omega arith))

under_over : (k : ℕ) (s u : List Value) → k ≤ length s → under k (s ++ u) ≡ under k s ++ u
under_over zero s u le = refl
under_over (suc k) [] u le = absurd (omega arith)
under_over (suc k) (x ∷ s) u le = under_over k s u (omega arith)

none_of : (u : List Value) → top_places zero u ≡ []
none_of [] = refl
none_of (x ∷ u) = refl

all_of : (u : List Value) → under_places zero u ≡ u
all_of [] = refl
all_of (x ∷ u) = refl

top_over : (p : ℕ) (s u : List Value) → IsTrue (has_places p s) → top_places p (s ++ u) ≡ top_places p s
top_over zero [] u h = none_of u
top_over zero (x ∷ s) u h = refl
top_over (suc p) [] u h = absurd cc
top_over (suc p) (x ∷ s) u h = ap (λ (l : List Value). x ∷ l) (top_over (suc p - places_of x) s u h)

rest_over : (p : ℕ) (s u : List Value) → IsTrue (has_places p s) → under_places p (s ++ u) ≡ under_places p s ++ u
rest_over zero [] u h = all_of u
rest_over zero (x ∷ s) u h = refl
rest_over (suc p) [] u h = absurd cc
rest_over (suc p) (x ∷ s) u h = rest_over (suc p - places_of x) s u h

joined : (a b r u : List Value) → a ++ (b ++ (a ++ (r ++ u))) ≡ (a ++ (b ++ (a ++ r))) ++ u
joined a b r u =
    ap (λ (l : List Value). a ++ (b ++ l)) (sym (append_assoc a r u))
    ∙ ap (λ (l : List Value). a ++ l) (sym (append_assoc b (a ++ r) u))
    ∙ sym (append_assoc a (b ++ (a ++ r)) u)

copied_over : (p d : ℕ) (s u : List Value) → IsTrue (has_places p s) → IsTrue (has_places d (under_places p s)) → copied p d (s ++ u) ≡ copied p d s ++ u
copied_over p d s u h k =
    let first = top_places p s in
    let rest = under_places p s in
    ap (λ (l : List Value). l ++ (top_places d (under_places p (s ++ u)) ++ (l ++ under_places d (under_places p (s ++ u))))) (top_over p s u h)
    ∙ ap (λ (l : List Value). first ++ (top_places d l ++ (first ++ under_places d l))) (rest_over p s u h)
    ∙ ap (λ (l : List Value). first ++ (l ++ (first ++ under_places d (rest ++ u)))) (top_over d rest u k)
    ∙ ap (λ (l : List Value). first ++ (top_places d rest ++ (first ++ l))) (rest_over d rest u k)
    ∙ joined first (top_places d rest) (under_places d rest) u

pushed : (v : Option Value) (r u : List Value) → push v (r ++ u) ≡ push v r ++ u
pushed None r u = refl
pushed (Some v) r u = refl

stacked_over : (locals r u : List Value) (a : Response) → flow_of locals (stacked (r ++ u) a) ≡ over u (flow_of locals (stacked r a))
stacked_over locals r u (Gave v o) = ap (λ (s : List Value). Falls (frame_of s locals) o) (pushed v r u)
stacked_over locals r u (Threw v o) = refl
stacked_over locals r u (Waits o) = refl

falls_over : (locals s t : List Value) (o : Outside) → s ≡ t → Falls (frame_of s locals) o ≡ Falls (frame_of t locals) o
falls_over locals s t o e = ap (λ (l : List Value). Falls (frame_of l locals) o) e

basic_over : (classes : Classes) (b : Basic) (s u locals : List Value) (o : Outside) → HasBasicOperands b s
    → flow_of locals (perform_basic classes b (s ++ u) o) ≡ over u (flow_of locals (perform_basic classes b s o))
basic_over classes Nop s u locals o h = refl
basic_over classes (Push v) s u locals o h = refl
basic_over classes (Drop p) s u locals o h = falls_over locals _ _ o (rest_over p s u h)
basic_over classes (Copy p d) s u locals o h = falls_over locals _ _ o (copied_over p d s u h.0 h.1)
basic_over classes Swap [] u locals o h = absurd (omega arith)
basic_over classes Swap (x ∷ []) u locals o h = absurd (omega arith)
basic_over classes Swap (x ∷ y ∷ s) u locals o h = refl
basic_over classes (Act a) s u locals o h =
    let count = length (operands_of a) in
    ap (λ (r : List Value). flow_of locals (stacked r (act classes a (popped count (s ++ u)) o))) (under_over count s u h)
    ∙ ap (λ (ops : List Value). flow_of locals (stacked (under count s ++ u) (act classes a ops o))) (popped_over count s u h)
    ∙ stacked_over locals (under count s) u (act classes a (popped count s) o)
basic_over classes Throw [] u locals o h = absurd (omega arith)
basic_over classes Throw (x ∷ s) u locals o h = stacked_over locals s u (throw_reference x o)

branch_over : (c : Bool) (target : ℕ) (s u locals : List Value) (o : Outside)
    → branch c target (frame_of (s ++ u) locals) o ≡ over u (branch c target (frame_of s locals) o)
branch_over true target s u locals o = refl
branch_over false target s u locals o = refl

pub perform_over : (classes : Classes) (op : Operation) (s u locals : List Value) (o : Outside) → HasOperands op s
    → perform classes op (frame_of (s ++ u) locals) o ≡ over u (perform classes op (frame_of s locals) o)
perform_over classes (Do b) s u locals o h = basic_over classes b s u locals o h
perform_over classes (Load kind slot) s u locals o h = refl
perform_over classes (Store kind slot) [] u locals o h = absurd (omega arith)
perform_over classes (Store kind slot) (x ∷ s) u locals o h = refl
perform_over classes (Increment slot by) s u locals o h = refl
perform_over classes (Branch c target) s u locals o h =
    let count = length (condition_operands c) in
    ap (λ (r : List Value). branch (is_met c (popped count (s ++ u))) target (frame_of r locals) o) (under_over count s u h)
    ∙ ap (λ (ops : List Value). branch (is_met c ops) target (frame_of (under count s ++ u) locals) o) (popped_over count s u h)
    ∙ branch_over (is_met c (popped count s)) target (under count s) u locals o
perform_over classes (Goto target) s u locals o h = refl
perform_over classes (Switch cases fallback) [] u locals o h = absurd (omega arith)
perform_over classes (Switch cases fallback) (x ∷ s) u locals o h = refl
perform_over classes (Return None) s u locals o h = refl
perform_over classes (Return (Some kind)) [] u locals o h = absurd (omega arith)
perform_over classes (Return (Some kind)) (x ∷ s) u locals o h = refl
