-- Shapes that say the same.
use Rattle.std.proofs.Common.{◌≡◌, ℕ, List, [], Option, Some, None, length, refl, sym, ◌∙◌, subst, ap}
use Rattle.std.proofs.Common.{◌⊎◌, inl, inr}
use Rattle.je_machine.specs.Action.{Action, operands_of}
use Rattle.je_machine.specs.Value.{Kind, IntKind, LongKind, FloatKind, DoubleKind, ReferenceKind}
use Rattle.je_shape.specs.Slot.{Slot, Reference, HasName}
use Rattle.je_shape.specs.Shape.{Shape, AreAlike}
use Rattle.je_shape.specs.Joined.{IsUnion}
use Rattle.je_shape.specs.Flow.{slot_of_kind, pushed, shape_of, given, left_by, acted, under_items}
use Rattle.je_flow.specs.Alike.{AreSameNames, AreSlotsAlike, AreGivenAlike}
use Rattle.je_shape.proofs.OrderLemmas.{item_self, stack_self, locals_self, shape_self}

pub same_alike : (s t : Shape) → s ≡ t → AreAlike s t
same_alike s t e =
    let P : Shape → Type 0 = λ u. AreAlike s u in
    subst P e (record { below = shape_self s; above = shape_self s })

pub union_names : (b all : List (List ℕ)) → IsUnion [] b all → AreSameNames all b
union_names b all u = (λ n h. forth n ((u n).0 h), λ n h. (u n).1 (inr h))
  where
    forth : (n : List ℕ) → HasName [] n ⊎ HasName b n → HasName b n
    forth n (inl h) = absurd h
    forth n (inr h) = h

pub kinds_alike : (kind : Kind) (a b : List (List ℕ)) → AreSameNames a b → AreSlotsAlike (slot_of_kind kind a) (slot_of_kind kind b)
kinds_alike IntKind a b h = (refl, refl)
kinds_alike LongKind a b h = (refl, refl)
kinds_alike FloatKind a b h = (refl, refl)
kinds_alike DoubleKind a b h = (refl, refl)
kinds_alike ReferenceKind a b h = h

-- what is loaded, of a kind and with the names of all components
pub loaded_alike : (kind : Kind) (s reference : Slot) (all names list : List (List ℕ))
    → ((names : List (List ℕ)) → reference ≡ Reference names → s ≡ slot_of_kind kind names)
    → reference ≡ Reference all → IsUnion [] names all → names ≡ list
    → AreSlotsAlike s (slot_of_kind kind list)
loaded_alike kind s reference all names list of e u n =
    let P : Slot → Type 0 = λ t. AreSlotsAlike t (slot_of_kind kind list) in
    let Q : List (List ℕ) → Type 0 = λ l. AreSlotsAlike (slot_of_kind kind all) (slot_of_kind kind l) in
    subst P (sym (of all e)) (subst Q n (kinds_alike kind all names (union_names names all u)))

pub given_alike : (s t : Option Slot) → s ≡ t → AreGivenAlike s t
given_alike s t e = let P : Option Slot → Type 0 = λ u. AreGivenAlike s u in subst P e (self s)
  where
    self : (s : Option Slot) → AreGivenAlike s s
    self None = tt
    self (Some s) = (item_self s, item_self s)

pushed_apart : (s t : Option Slot) (stack locals : List Slot) → AreGivenAlike s t
    → AreAlike (shape_of (pushed s stack) locals) (shape_of (pushed t stack) locals)
pushed_apart None None stack locals h =
    record { below = shape_self (shape_of stack locals); above = shape_self (shape_of stack locals) }
pushed_apart None (Some t) stack locals h = absurd h
pushed_apart (Some s) None stack locals h = absurd h
pushed_apart (Some s) (Some t) stack locals h =
    record {
      below = record { stack = (h.0, stack_self stack); locals = locals_self locals };
      above = record { stack = (h.1, stack_self stack); locals = locals_self locals };
    }

pub pushed_alike : (s t : Option Slot) (stack locals above vars : List Slot) → AreGivenAlike s t
    → above ≡ pushed s stack → vars ≡ locals
    → AreAlike (shape_of above vars) (shape_of (pushed t stack) locals)
pushed_alike s t stack locals above vars h e v =
    let P : List Slot → Type 0 = λ l. AreAlike (shape_of l vars) (shape_of (pushed t stack) locals) in
    let Q : List Slot → Type 0 = λ l. AreAlike (shape_of (pushed s stack) l) (shape_of (pushed t stack) locals) in
    subst P (sym e) (subst Q (sym v) (pushed_apart s t stack locals h))

-- an action, by its parts
pub acted_alike : (at : ℕ) (action : Action) (slot : Option Slot) (count : ℕ) (a b c stack locals under above vars : List Slot)
    → a ≡ stack → b ≡ stack → c ≡ locals
    → AreGivenAlike slot (given at action a) → count ≡ length (operands_of action)
    → under ≡ under_items count b → above ≡ pushed slot under → vars ≡ left_by at action c
    → AreAlike (shape_of above vars) (acted at action (shape_of stack locals))
acted_alike at action slot count a b c stack locals under above vars e f g h n u p v =
    let P : List Slot → Type 0 = λ l. AreGivenAlike slot (given at action l) in
    pushed_alike slot (given at action stack) (under_items (length (operands_of action)) stack) (left_by at action locals) above vars
    (subst P e h)
    (p ∙ ap (pushed slot) (u ∙ ap (λ (m : ℕ). under_items m b) n ∙ ap (under_items (length (operands_of action))) f))
    (v ∙ ap (left_by at action) g)
