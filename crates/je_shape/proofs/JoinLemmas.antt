-- Joins are least upper bounds: of names, slots, stacks, local variables and shapes.
use Rattle.std.proofs.Common.{◌≡◌, ℕ, zero, suc, List, [], ◌∷◌, Some, None, ◌⊎◌, inl, inr, sym, ◌∙◌}
use Rattle.je_shape.specs.Slot.{Word, Slot, Top, Is, Reference, HasNames, IsBelow, IsItemBelow}
use Rattle.je_shape.specs.Shape.{Shape, local_at, StackBelow, LocalsBelow, Known, Nothing, Has, Broken, KnownBelow}
use Rattle.je_shape.specs.Joined.{IsJoin, IsUnion, IsSlotJoin, IsItemJoin, IsLocalsJoin, IsStackJoin, IsShapeJoin, IsKnownJoin}
use Rattle.je_shape.proofs.OrderLemmas.{item_self, known_self}

-- ---- names

names_left : (a b c : List (List ℕ)) → IsUnion a b c → HasNames a c
names_left a b c u n h = (u n).1 (inl h)

names_right : (a b c : List (List ℕ)) → IsUnion a b c → HasNames b c
names_right a b c u n h = (u n).1 (inr h)

either : {A B C : Type 0} → (A → C) → (B → C) → A ⊎ B → C
either f g (inl a) = f a
either f g (inr b) = g b

names_least : (a b c d : List (List ℕ)) → IsUnion a b c → HasNames a d → HasNames b d → HasNames c d
names_least a b c d u h k n i = either (h n) (k n) ((u n).0 i)

-- ---- items

pub tops_join : IsItemJoin Top Top (Some Top)
tops_join = record { left = tt; right = tt; least = λ above h k. h }

pub words_join : (a b : Word) → a ≡ b → IsItemJoin (Is a) (Is b) (Some (Is a))
words_join a b e =
    record {
      left = item_self (Is a);
      right = sym e;
      least = λ above h k. h;
    }

pub words_differ : (a b : Word) → (a ≡ b → ⊥) → IsItemJoin (Is a) (Is b) None
words_differ a b e Top h k = h
words_differ a b e (Is c) h k = e (h ∙ sym k)
words_differ a b e (Reference c) h k = h

references_least : (a b c : List (List ℕ)) → IsUnion a b c → (above : Slot) → IsItemBelow (Reference a) above → IsItemBelow (Reference b) above → IsItemBelow (Reference c) above
references_least a b c u Top h k = h
references_least a b c u (Is w) h k = h
references_least a b c u (Reference d) h k = names_least a b c d u h k

pub references_join : (a b c : List (List ℕ)) → IsUnion a b c → IsItemJoin (Reference a) (Reference b) (Some (Reference c))
references_join a b c u =
    record {
      left = names_left a b c u;
      right = names_right a b c u;
      least = references_least a b c u;
    }

pub top_word : (b : Word) → IsItemJoin Top (Is b) None
top_word b Top h k = k
top_word b (Is c) h k = h
top_word b (Reference c) h k = k

pub top_reference : (b : List (List ℕ)) → IsItemJoin Top (Reference b) None
top_reference b Top h k = k
top_reference b (Is c) h k = h
top_reference b (Reference c) h k = h

pub word_reference : (a : Word) (b : List (List ℕ)) → IsItemJoin (Is a) (Reference b) None
word_reference a b Top h k = h
word_reference a b (Is c) h k = k
word_reference a b (Reference c) h k = h

pub turned : (a b : Slot) → IsItemJoin a b None → IsItemJoin b a None
turned a b n above h k = n above k h

-- ---- local variables

top_least : (a b : Slot) → IsItemJoin a b None → (above : Slot) → IsBelow a above → IsBelow b above → IsBelow Top above
top_least a b n Top h k = tt
top_least Top b n (Is c) h k = absurd h
top_least (Is a) Top n (Is c) h k = absurd k
top_least (Is a) (Is b) n (Is c) h k = absurd (n (Is c) h k)
top_least (Is a) (Reference b) n (Is c) h k = absurd k
top_least (Reference a) b n (Is c) h k = absurd h
top_least Top b n (Reference c) h k = absurd h
top_least (Is a) b n (Reference c) h k = absurd h
top_least (Reference a) Top n (Reference c) h k = absurd k
top_least (Reference a) (Is b) n (Reference c) h k = absurd k
top_least (Reference a) (Reference b) n (Reference c) h k = absurd (n (Reference c) h k)

-- local variables whose values have no join as items become Top
pub no_item : (a b : Slot) → IsItemJoin a b None → IsSlotJoin a b Top
no_item a b n = record { left = tt; right = tt; least = top_least a b n }

below_of : (a b : Slot) → IsItemBelow a b → IsBelow a b
below_of a Top h = tt
below_of Top (Is b) h = absurd h
below_of (Is a) (Is b) h = h
below_of (Reference a) (Is b) h = absurd h
below_of Top (Reference b) h = absurd h
below_of (Is a) (Reference b) h = absurd h
below_of (Reference a) (Reference b) h = h

local_least : (a b c : Slot) → IsItemJoin a b (Some c) → (above : Slot) → IsBelow a above → IsBelow b above → IsBelow c above
local_least a b c j Top h k = tt
local_least Top b c j (Is d) h k = absurd h
local_least (Reference a) b c j (Is d) h k = absurd h
local_least (Is a) Top c j (Is d) h k = absurd k
local_least (Is a) (Reference b) c j (Is d) h k = absurd k
local_least (Is a) (Is b) c j (Is d) h k = below_of c (Is d) (j.least (Is d) h k)
local_least Top b c j (Reference d) h k = absurd h
local_least (Is a) b c j (Reference d) h k = absurd h
local_least (Reference a) Top c j (Reference d) h k = absurd k
local_least (Reference a) (Is b) c j (Reference d) h k = absurd k
local_least (Reference a) (Reference b) c j (Reference d) h k = below_of c (Reference d) (j.least (Reference d) h k)

-- and those that have one, that one
pub item_joins : (a b c : Slot) → IsItemJoin a b (Some c) → IsSlotJoin a b c
item_joins a b c j =
    record {
      left = below_of a c j.left;
      right = below_of b c j.right;
      least = local_least a b c j;
    }

pub locals_join : (a b c : List Slot) → ((i : ℕ) → IsSlotJoin (local_at a i) (local_at b i) (local_at c i)) → IsLocalsJoin a b c
locals_join a b c j =
    record {
      left = λ i. (j i).left;
      right = λ i. (j i).right;
      least = λ above h k i. (j i).least (local_at above i) (h i) (k i);
    }

-- ---- stacks

pub empty_join : IsStackJoin [] [] (Some [])
empty_join = record { left = tt; right = tt; least = λ above h k. h }

cons_least : (x y z : Slot) (a b c : List Slot) → IsItemJoin x y (Some z) → IsStackJoin a b (Some c) → (above : List Slot) → StackBelow (x ∷ a) above → StackBelow (y ∷ b) above → StackBelow (z ∷ c) above
cons_least x y z a b c i j [] h k = h
cons_least x y z a b c i j (w ∷ above) h k = (i.least w h.0 k.0, j.least above h.1 k.1)

pub cons_join : (x y z : Slot) (a b c : List Slot) → IsItemJoin x y (Some z) → IsStackJoin a b (Some c) → IsStackJoin (x ∷ a) (y ∷ b) (Some (z ∷ c))
cons_join x y z a b c i j =
    record {
      left = (i.left, j.left);
      right = (i.right, j.right);
      least = cons_least x y z a b c i j;
    }

pub no_first : (x y : Slot) (a b : List Slot) → IsItemJoin x y None → IsStackJoin (x ∷ a) (y ∷ b) None
no_first x y a b n [] h k = h
no_first x y a b n (w ∷ above) h k = n w h.0 k.0

pub no_rest : (x y : Slot) (a b : List Slot) → IsStackJoin a b None → IsStackJoin (x ∷ a) (y ∷ b) None
no_rest x y a b n [] h k = h
no_rest x y a b n (w ∷ above) h k = n above h.1 k.1

pub shorter : (y : Slot) (b : List Slot) → IsStackJoin [] (y ∷ b) None
shorter y b [] h k = k
shorter y b (w ∷ above) h k = h

pub longer : (x : Slot) (a : List Slot) → IsStackJoin (x ∷ a) [] None
longer x a [] h k = h
longer x a (w ∷ above) h k = k

-- ---- shapes

pub shapes_join : (a b c : Shape) → IsStackJoin a.stack b.stack (Some c.stack) → IsLocalsJoin a.locals b.locals c.locals → IsShapeJoin a b (Some c)
shapes_join a b c i j =
    record {
      left = record { stack = i.left; locals = j.left };
      right = record { stack = i.right; locals = j.right };
      least =
          λ above h k. record { stack = i.least above.stack h.stack k.stack; locals = j.least above.locals h.locals k.locals };
    }

pub no_shape : (a b : Shape) → IsStackJoin a.stack b.stack None → IsShapeJoin a b None
no_shape a b n above h k = n above.stack h.stack k.stack

known_least : (a b c : Shape) → IsShapeJoin a b (Some c) → (above : Known) → KnownBelow (Has a) above → KnownBelow (Has b) above → KnownBelow (Has c) above
known_least a b c j Nothing h k = h
known_least a b c j (Has d) h k = j.least d h k
known_least a b c j Broken h k = tt

pub known_join : (a b c : Shape) → IsShapeJoin a b (Some c) → IsKnownJoin (Has a) (Has b) (Has c)
known_join a b c j = record { left = j.left; right = j.right; least = known_least a b c j }

broken_least : (a b : Shape) → IsShapeJoin a b None → (above : Known) → KnownBelow (Has a) above → KnownBelow (Has b) above → KnownBelow Broken above
broken_least a b n Nothing h k = absurd h
broken_least a b n (Has d) h k = absurd (n d h k)
broken_least a b n Broken h k = tt

pub broken_join : (a b : Shape) → IsShapeJoin a b None → IsKnownJoin (Has a) (Has b) Broken
broken_join a b n = record { left = tt; right = tt; least = broken_least a b n }

pub nothing_join : (b : Known) → IsKnownJoin Nothing b b
nothing_join b = record { left = tt; right = known_self b; least = λ above h k. k }

-- ---- one join

pub one_join : (A : Type 0) (Below : A → A → Type 0) (a b c d : A) → IsJoin A Below a b c → IsJoin A Below a b d → Below c d
one_join A Below a b c d i j = i.least d j.left j.right

-- ---- local variables, one after the other

cons_locals : (x y : Slot) (a b : List Slot) → IsBelow x y → LocalsBelow a b → LocalsBelow (x ∷ a) (y ∷ b)
cons_locals x y a b h k zero = h
cons_locals x y a b h k (suc i) = k i

locals_least : (x y z : Slot) (a b c : List Slot) → IsSlotJoin x y z → IsLocalsJoin a b c → (above : List Slot) → LocalsBelow (x ∷ a) above → LocalsBelow (y ∷ b) above → LocalsBelow (z ∷ c) above
locals_least x y z a b c i j [] h k n = tt
locals_least x y z a b c i j (w ∷ above) h k zero = i.least w (h zero) (k zero)
locals_least x y z a b c i j (w ∷ above) h k (suc n) = j.least above (λ m. h (suc m)) (λ m. k (suc m)) n

pub locals_cons : (x y z : Slot) (a b c : List Slot) → IsSlotJoin x y z → IsLocalsJoin a b c → IsLocalsJoin (x ∷ a) (y ∷ b) (z ∷ c)
locals_cons x y z a b c i j =
    record {
      left = cons_locals x z a c i.left j.left;
      right = cons_locals y z b c i.right j.right;
      least = locals_least x y z a b c i j;
    }

pub locals_end : (b : List Slot) → IsLocalsJoin [] b []
locals_end b = record { left = λ i. tt; right = λ i. tt; least = λ above h k. h }

pub locals_stop : (a : List Slot) → IsLocalsJoin a [] []
locals_stop a = record { left = λ i. tt; right = λ i. tt; least = λ above h k. k }
