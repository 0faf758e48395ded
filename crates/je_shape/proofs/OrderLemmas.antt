-- The order of slots, stacks, local variables, shapes and what is known of an index.
use Rattle.std.proofs.Common.{List, [], ◌∷◌, refl, ◌∙◌}
use Rattle.je_shape.specs.Slot.{Slot, Top, Is, Reference, IsBelow, IsItemBelow}
use Rattle.je_shape.specs.Shape.{Shape, local_at, StackBelow, LocalsBelow, ShapeBelow, Known, Nothing, Has, Broken, KnownBelow}

-- ---- slots

pub below_self : (s : Slot) → IsBelow s s
below_self Top = tt
below_self (Is word) = refl
below_self (Reference names) = λ n h. h

pub below_chain : (s t u : Slot) → IsBelow s t → IsBelow t u → IsBelow s u
below_chain s t Top h k = tt
below_chain Top Top (Is c) h k = k
below_chain Top (Is b) (Is c) h k = h
below_chain Top (Reference b) (Is c) h k = h
below_chain (Is a) Top (Is c) h k = absurd k
below_chain (Is a) (Is b) (Is c) h k = h ∙ k
below_chain (Is a) (Reference b) (Is c) h k = absurd h
below_chain (Reference a) Top (Is c) h k = k
below_chain (Reference a) (Is b) (Is c) h k = h
below_chain (Reference a) (Reference b) (Is c) h k = k
below_chain Top Top (Reference c) h k = k
below_chain Top (Is b) (Reference c) h k = h
below_chain Top (Reference b) (Reference c) h k = h
below_chain (Is a) Top (Reference c) h k = k
below_chain (Is a) (Is b) (Reference c) h k = k
below_chain (Is a) (Reference b) (Reference c) h k = h
below_chain (Reference a) Top (Reference c) h k = absurd k
below_chain (Reference a) (Is b) (Reference c) h k = absurd h
below_chain (Reference a) (Reference b) (Reference c) h k = λ n i. k n (h n i)

pub item_self : (s : Slot) → IsItemBelow s s
item_self Top = tt
item_self (Is word) = refl
item_self (Reference names) = λ n h. h

pub item_chain : (s t u : Slot) → IsItemBelow s t → IsItemBelow t u → IsItemBelow s u
item_chain Top Top u h k = k
item_chain Top (Is b) u h k = absurd h
item_chain Top (Reference b) u h k = absurd h
item_chain (Is a) Top u h k = absurd h
item_chain (Is a) (Is b) Top h k = absurd k
item_chain (Is a) (Is b) (Is c) h k = h ∙ k
item_chain (Is a) (Is b) (Reference c) h k = absurd k
item_chain (Is a) (Reference b) u h k = absurd h
item_chain (Reference a) Top u h k = absurd h
item_chain (Reference a) (Is b) u h k = absurd h
item_chain (Reference a) (Reference b) Top h k = absurd k
item_chain (Reference a) (Reference b) (Is c) h k = absurd k
item_chain (Reference a) (Reference b) (Reference c) h k = λ n i. k n (h n i)

pub item_below : (s t : Slot) → IsItemBelow s t → IsBelow s t
item_below s Top h = tt
item_below Top (Is b) h = absurd h
item_below (Is a) (Is b) h = h
item_below (Reference a) (Is b) h = absurd h
item_below Top (Reference b) h = absurd h
item_below (Is a) (Reference b) h = absurd h
item_below (Reference a) (Reference b) h = h

-- ---- stacks and local variables

pub stack_self : (s : List Slot) → StackBelow s s
stack_self [] = tt
stack_self (x ∷ s) = (item_self x, stack_self s)

pub stack_chain : (s t u : List Slot) → StackBelow s t → StackBelow t u → StackBelow s u
stack_chain [] [] u h k = k
stack_chain [] (y ∷ t) u h k = absurd h
stack_chain (x ∷ s) [] u h k = absurd h
stack_chain (x ∷ s) (y ∷ t) [] h k = absurd k
stack_chain (x ∷ s) (y ∷ t) (z ∷ u) h k = (item_chain x y z h.0 k.0, stack_chain s t u h.1 k.1)

pub locals_self : (s : List Slot) → LocalsBelow s s
locals_self s = λ i. below_self (local_at s i)

pub locals_chain : (s t u : List Slot) → LocalsBelow s t → LocalsBelow t u → LocalsBelow s u
locals_chain s t u h k = λ i. below_chain (local_at s i) (local_at t i) (local_at u i) (h i) (k i)

-- ---- shapes

pub shape_self : (s : Shape) → ShapeBelow s s
shape_self s = record { stack = stack_self s.stack; locals = locals_self s.locals }

pub shape_chain : (s t u : Shape) → ShapeBelow s t → ShapeBelow t u → ShapeBelow s u
shape_chain s t u h k =
    record {
      stack = stack_chain s.stack t.stack u.stack h.stack k.stack;
      locals = locals_chain s.locals t.locals u.locals h.locals k.locals;
    }

pub known_self : (s : Known) → KnownBelow s s
known_self Nothing = tt
known_self (Has s) = shape_self s
known_self Broken = tt

pub known_chain : (s t u : Known) → KnownBelow s t → KnownBelow t u → KnownBelow s u
known_chain Nothing t u h k = tt
known_chain (Has s) Nothing u h k = absurd h
known_chain (Has s) (Has t) Nothing h k = absurd k
known_chain (Has s) (Has t) (Has u) h k = shape_chain s t u h k
known_chain (Has s) (Has t) Broken h k = tt
known_chain (Has s) Broken Nothing h k = absurd k
known_chain (Has s) Broken (Has u) h k = absurd k
known_chain (Has s) Broken Broken h k = tt
known_chain Broken Nothing u h k = absurd h
known_chain Broken (Has t) u h k = absurd h
known_chain Broken Broken u h k = k

pub below_top_slot : (s : Slot) → IsBelow s Top
below_top_slot s = tt
