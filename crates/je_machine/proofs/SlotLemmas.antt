-- An operation reads and writes its own slots alone.
use Rattle.std.proofs.Common.{◌≡◌, ℕ, zero, suc, List, [], ◌∷◌, Some, None, Bool, true, false, refl, sym, ap, subst, ◌∙◌, ◌⊎◌, inl, inr, arith}
use Rattle.je_machine.specs.Value.{Value}
use Rattle.je_machine.specs.Classes.{Classes}
use Rattle.je_machine.specs.Outside.{Outside}
use Rattle.je_machine.specs.Operation.{Operation, Do, Load, Store, Increment, Branch, Goto, Switch, Return}
use Rattle.je_machine.specs.Frame.{Frame, Stacked, Stands, Breaks, Stalls, perform_basic, frame_of, flow_of, branch, perform, top, local_at, with_local, incremented}
use Rattle.je_machine.specs.Slots.{AgreeBelow, UsesBelow, Writes, KeepsLocal, AlikeFlows}

pub written_here : (locals : List Value) (slot : ℕ) (v : Value) → local_at (with_local locals slot v) slot ≡ v
written_here [] zero v = refl
written_here [] (suc slot) v = written_here [] slot v
written_here (x ∷ locals) zero v = refl
written_here (x ∷ locals) (suc slot) v = written_here locals slot v

pub written_other : (locals : List Value) (own slot : ℕ) (v : Value) → (own ≡ slot → ⊥) → local_at (with_local locals own v) slot ≡ local_at locals slot
written_other [] zero zero v h = absurd (h refl)
written_other [] zero (suc slot) v h = refl
written_other [] (suc own) zero v h = refl
written_other [] (suc own) (suc slot) v h = written_other [] own slot v (λ e. h (ap suc e))
written_other (x ∷ locals) zero zero v h = absurd (h refl)
written_other (x ∷ locals) zero (suc slot) v h = refl
written_other (x ∷ locals) (suc own) zero v h = refl
written_other (x ∷ locals) (suc own) (suc slot) v h = written_other locals own slot v (λ e. h (ap suc e))

same_or_not : (a b : ℕ) → (a ≡ b) ⊎ (a ≡ b → ⊥)
same_or_not zero zero = inl refl
same_or_not zero (suc b) = inr (λ e. absurd cc)
same_or_not (suc a) zero = inr (λ e. absurd cc)
same_or_not (suc a) (suc b) = elim (same_or_not a b) [ inl e ↦ inl (ap suc e) | inr h ↦ inr (λ e. h (omega arith)) ]

write_by : (a b : List Value) (own slot : ℕ) (v w : Value) → v ≡ w → local_at a slot ≡ local_at b slot → (own ≡ slot) ⊎ (own ≡ slot → ⊥)
    → local_at (with_local a own v) slot ≡ local_at (with_local b own w) slot
write_by a b own slot v w e same (inl is) =
    subst (λ (s : ℕ). local_at (with_local a own v) s ≡ local_at (with_local b own w) s) is
    (written_here a own v ∙ e ∙ sym (written_here b own w))
write_by a b own slot v w e same (inr h) = written_other a own slot v h ∙ same ∙ sym (written_other b own slot w h)

write_agrees : (limit : ℕ) (a b : List Value) (own : ℕ) (v w : Value) → v ≡ w → AgreeBelow limit a b → AgreeBelow limit (with_local a own v) (with_local b own w)
write_agrees limit a b own v w e same = λ slot less. write_by a b own slot v w e (same slot less) (same_or_not own slot)

flow_alike : (limit : ℕ) (a b : List Value) (s : Stacked) → AgreeBelow limit a b → AlikeFlows limit (flow_of a s) (flow_of b s)
flow_alike limit a b (Stands stack o) same = (record { stack = refl; locals = same }, refl)
flow_alike limit a b (Breaks v o) same = (refl, refl)
flow_alike limit a b (Stalls o) same = refl

branch_alike : (limit : ℕ) (c : Bool) (target : ℕ) (stack a b : List Value) (o : Outside) → AgreeBelow limit a b
    → AlikeFlows limit (branch c target (frame_of stack a) o) (branch c target (frame_of stack b) o)
branch_alike limit true target stack a b o same = (refl, record { stack = refl; locals = same }, refl)
branch_alike limit false target stack a b o same = (record { stack = refl; locals = same }, refl)

pub perform_alike : (classes : Classes) (limit : ℕ) (op : Operation) (stack a b : List Value) (o : Outside) → UsesBelow limit op → AgreeBelow limit a b
    → AlikeFlows limit (perform classes op (frame_of stack a) o) (perform classes op (frame_of stack b) o)
perform_alike classes limit (Do basic) stack a b o uses same = flow_alike limit a b (perform_basic classes basic stack o) same
perform_alike classes limit (Load kind slot) stack a b o uses same =
    (record { stack = ap (λ (v : Value). v ∷ stack) (same slot uses); locals = same }, refl)
perform_alike classes limit (Store kind slot) stack a b o uses same =
    (record { stack = refl; locals = write_agrees limit a b slot (top stack) (top stack) refl same }, refl)
perform_alike classes limit (Increment slot by) stack a b o uses same =
    (record { stack = refl; locals = write_agrees limit a b slot (incremented by (local_at a slot)) (incremented by (local_at b slot)) (ap (incremented by) (same slot uses)) same }, refl)
perform_alike classes limit (Branch c target) stack a b o uses same = branch_alike limit _ target _ a b o same
perform_alike classes limit (Goto target) stack a b o uses same = (refl, record { stack = refl; locals = same }, refl)
perform_alike classes limit (Switch cases fallback) stack a b o uses same = (refl, record { stack = refl; locals = same }, refl)
perform_alike classes limit (Return None) stack a b o uses same = (refl, refl)
perform_alike classes limit (Return (Some kind)) stack a b o uses same = (refl, refl)

flow_keeps : (slot : ℕ) (locals : List Value) (s : Stacked) → KeepsLocal slot locals (flow_of locals s)
flow_keeps slot locals (Stands stack o) = refl
flow_keeps slot locals (Breaks v o) = tt
flow_keeps slot locals (Stalls o) = tt

branch_keeps : (slot : ℕ) (c : Bool) (target : ℕ) (stack locals : List Value) (o : Outside) → KeepsLocal slot locals (branch c target (frame_of stack locals) o)
branch_keeps slot true target stack locals o = refl
branch_keeps slot false target stack locals o = refl

pub perform_keeps : (classes : Classes) (slot : ℕ) (op : Operation) (frame : Frame) (o : Outside) → (Writes slot op → ⊥) → KeepsLocal slot frame.locals (perform classes op frame o)
perform_keeps classes slot (Do basic) frame o h = flow_keeps slot frame.locals (perform_basic classes basic frame.stack o)
perform_keeps classes slot (Load kind own) frame o h = refl
perform_keeps classes slot (Store kind own) frame o h = written_other frame.locals own slot _ h
perform_keeps classes slot (Increment own by) frame o h = written_other frame.locals own slot _ h
perform_keeps classes slot (Branch c target) frame o h = branch_keeps slot _ target _ frame.locals o
perform_keeps classes slot (Goto target) frame o h = refl
perform_keeps classes slot (Switch cases fallback) frame o h = refl
perform_keeps classes slot (Return None) frame o h = tt
perform_keeps classes slot (Return (Some kind)) frame o h = tt
