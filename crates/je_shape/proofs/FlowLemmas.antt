-- The flow through an instruction is monotone, and what serves above serves below.
use Rattle.std.proofs.Common.{◌≡◌, ℕ, zero, suc, ◌-◌, ◌≤◌, List, [], ◌∷◌, ◌++◌, length, map, Option, Some, None, inl, inr, refl, sym, ap, ◌∙◌, subst}
use Rattle.std.specs.Prelude.{reverse}
use Rattle.std.specs.List.{AllByRecursion}
use Rattle.je_machine.specs.Value.{Kind, IntKind, LongKind, FloatKind, DoubleKind, ReferenceKind}
use Rattle.je_machine.specs.Condition.{condition_operands}
use Rattle.je_machine.specs.Action.{Action, LoadElement, New, kind_of_element, operands_of}
use Rattle.je_machine.specs.Operation.{Basic, Nop, Push, Drop, Copy, Swap, Act, Throw, Operation, Do, Load, Store, Increment, Branch, Goto, Switch, Return}
use Rattle.je_shape.specs.Slot.{Word, IntWord, FloatWord, LongWord, DoubleWord, UninitThis, Uninit, Slot, Top, Is, Reference, HasName, HasNames, IsBelow, IsItemBelow}
use Rattle.je_shape.specs.Shape.{Shape, local_at, StackBelow, LocalsBelow, ShapeBelow}
use Rattle.je_shape.specs.Flow.{shape_of, slot_of_kind, component_name, names_of, top_item, below_top, under_items, width, top_places, under_places, copied, pushed, with_slot, cut, cut_before, with_second, stored, forgot, made, class_made, constructed, constructor, given, left_by, acted, act_flow, flow_basic, flow}
use Rattle.je_shape.specs.Serves.{Want, Wants, WantsAny, WantsThis, Meets, StackMeets, moved, wants_of_condition, wants_of, IsItem, HasPlaces, IsTarget, IsNotMade, ServesNew, wants_of_parameters, ServesAct, ServesBasic, wants_of_return, ServesOperation}
use Rattle.je_shape.proofs.OrderLemmas.{below_self, item_self, item_below}

-- ---- the stack

top_below : (s t : List Slot) → StackBelow s t → IsItemBelow (top_item s) (top_item t)
top_below [] [] h = tt
top_below [] (y ∷ t) h = absurd h
top_below (x ∷ s) [] h = absurd h
top_below (x ∷ s) (y ∷ t) h = h.0

rest_below : (s t : List Slot) → StackBelow s t → StackBelow (below_top s) (below_top t)
rest_below [] [] h = tt
rest_below [] (y ∷ t) h = absurd h
rest_below (x ∷ s) [] h = absurd h
rest_below (x ∷ s) (y ∷ t) h = h.1

under_below : (n : ℕ) (s t : List Slot) → StackBelow s t → StackBelow (under_items n s) (under_items n t)
under_below zero s t h = h
under_below (suc n) s t h = under_below n (below_top s) (below_top t) (rest_below s t h)

width_same : (s t : Slot) → IsItemBelow s t → width s ≡ width t
width_same Top Top h = refl
width_same Top (Is b) h = absurd h
width_same Top (Reference b) h = absurd h
width_same (Is a) Top h = absurd h
width_same (Is a) (Is b) h = ap (λ w. width (Is w)) h
width_same (Is a) (Reference b) h = absurd h
width_same (Reference a) Top h = absurd h
width_same (Reference a) (Is b) h = absurd h
width_same (Reference a) (Reference b) h = refl

places_below : (p : ℕ) (s t : List Slot) → StackBelow s t → StackBelow (top_places p s) (top_places p t)
places_below zero [] [] h = tt
places_below (suc p) [] [] h = tt
places_below p [] (y ∷ t) h = absurd h
places_below p (x ∷ s) [] h = absurd h
places_below zero (x ∷ s) (y ∷ t) h = tt
places_below (suc p) (x ∷ s) (y ∷ t) h =
    let P : ℕ → Type 0 = λ w. StackBelow (top_places (suc p - width x) s) (top_places (suc p - w) t) in
    (h.0, subst P (width_same x y h.0) (places_below (suc p - width x) s t h.1))

behind_below : (p : ℕ) (s t : List Slot) → StackBelow s t → StackBelow (under_places p s) (under_places p t)
behind_below zero [] [] h = tt
behind_below (suc p) [] [] h = tt
behind_below p [] (y ∷ t) h = absurd h
behind_below p (x ∷ s) [] h = absurd h
behind_below zero (x ∷ s) (y ∷ t) h = h
behind_below (suc p) (x ∷ s) (y ∷ t) h =
    let P : ℕ → Type 0 = λ w. StackBelow (under_places (suc p - width x) s) (under_places (suc p - w) t) in
    subst P (width_same x y h.0) (behind_below (suc p - width x) s t h.1)

joined_below : (a b c d : List Slot) → StackBelow a b → StackBelow c d → StackBelow (a ++ c) (b ++ d)
joined_below [] [] c d h k = k
joined_below [] (y ∷ b) c d h k = absurd h
joined_below (x ∷ a) [] c d h k = absurd h
joined_below (x ∷ a) (y ∷ b) c d h k = (h.0, joined_below a b c d h.1 k)

copied_below : (p d : ℕ) (s t : List Slot) → StackBelow s t → StackBelow (copied p d s) (copied p d t)
copied_below p d s t h =
    let first = places_below p s t h in
    let rest = behind_below p s t h in
    joined_below (top_places p s) (top_places p t) _ _ first
    (joined_below (top_places d (under_places p s)) (top_places d (under_places p t)) _ _ (places_below d (under_places p s) (under_places p t) rest)
    (joined_below (top_places p s) (top_places p t) _ _ first (behind_below d (under_places p s) (under_places p t) rest)))

-- ---- local variables

pub written_below : (l m : List Slot) (i : ℕ) (s t : Slot) → LocalsBelow l m → IsBelow s t → LocalsBelow (with_slot l i s) (with_slot m i t)
written_below [] [] zero s t h k zero = k
written_below [] [] zero s t h k (suc j) = tt
written_below [] [] (suc i) s t h k zero = tt
written_below [] [] (suc i) s t h k (suc j) = written_below [] [] i s t h k j
written_below [] (y ∷ m) zero s t h k zero = k
written_below [] (y ∷ m) zero s t h k (suc j) = h (suc j)
written_below [] (y ∷ m) (suc i) s t h k zero = h zero
written_below [] (y ∷ m) (suc i) s t h k (suc j) = written_below [] m i s t (λ n. h (suc n)) k j
written_below (x ∷ l) [] zero s t h k zero = k
written_below (x ∷ l) [] zero s t h k (suc j) = tt
written_below (x ∷ l) [] (suc i) s t h k zero = tt
written_below (x ∷ l) [] (suc i) s t h k (suc j) = written_below l [] i s t (λ n. h (suc n)) k j
written_below (x ∷ l) (y ∷ m) zero s t h k zero = k
written_below (x ∷ l) (y ∷ m) zero s t h k (suc j) = h (suc j)
written_below (x ∷ l) (y ∷ m) (suc i) s t h k zero = h zero
written_below (x ∷ l) (y ∷ m) (suc i) s t h k (suc j) = written_below l m i s t (λ n. h (suc n)) k j

same_below : (f : Slot → Slot) (a b : Word) → a ≡ b → IsBelow (f (Is a)) (f (Is b))
same_below f a b e =
    let P : Word → Type 0 = λ w. IsBelow (f (Is a)) (f (Is w)) in
    subst P e (below_self (f (Is a)))

same_item_below : (f : Slot → Slot) (a b : Word) → a ≡ b → IsItemBelow (f (Is a)) (f (Is b))
same_item_below f a b e =
    let P : Word → Type 0 = λ w. IsItemBelow (f (Is a)) (f (Is w)) in
    subst P e (item_self (f (Is a)))

cut_below : (s t : Slot) → IsBelow s t → IsBelow (cut s) (cut t)
cut_below s Top h = tt
cut_below Top (Is b) h = absurd h
cut_below (Is a) (Is b) h = same_below cut a b h
cut_below (Reference a) (Is b) h = absurd h
cut_below Top (Reference b) h = absurd h
cut_below (Is a) (Reference b) h = absurd h
cut_below (Reference a) (Reference b) h = h

forgot_below : (at : ℕ) (s t : Slot) → IsBelow s t → IsBelow (forgot at s) (forgot at t)
forgot_below at s Top h = tt
forgot_below at Top (Is b) h = absurd h
forgot_below at (Is a) (Is b) h = same_below (forgot at) a b h
forgot_below at (Reference a) (Is b) h = absurd h
forgot_below at Top (Reference b) h = absurd h
forgot_below at (Is a) (Reference b) h = absurd h
forgot_below at (Reference a) (Reference b) h = h

made_below : (w : Word) (class : List ℕ) (s t : Slot) → IsBelow s t → IsBelow (made w class s) (made w class t)
made_below w class s Top h = tt
made_below w class Top (Is b) h = absurd h
made_below w class (Is a) (Is b) h = same_below (made w class) a b h
made_below w class (Reference a) (Is b) h = absurd h
made_below w class Top (Reference b) h = absurd h
made_below w class (Is a) (Reference b) h = absurd h
made_below w class (Reference a) (Reference b) h = h

made_item : (w : Word) (class : List ℕ) (s t : Slot) → IsItemBelow s t → IsItemBelow (made w class s) (made w class t)
made_item w class Top Top h = tt
made_item w class (Is a) Top h = absurd h
made_item w class (Reference a) Top h = absurd h
made_item w class Top (Is b) h = absurd h
made_item w class (Is a) (Is b) h = same_item_below (made w class) a b h
made_item w class (Reference a) (Is b) h = absurd h
made_item w class Top (Reference b) h = absurd h
made_item w class (Is a) (Reference b) h = absurd h
made_item w class (Reference a) (Reference b) h = h

cut_before_below : (i : ℕ) (l m : List Slot) → LocalsBelow l m → LocalsBelow (cut_before i l) (cut_before i m)
cut_before_below zero l m h = h
cut_before_below (suc i) l m h =
    written_below l m i (cut (local_at l i)) (cut (local_at m i)) h (cut_below (local_at l i) (local_at m i) (h i))

second_below : (a : Word) (i : ℕ) (l m : List Slot) → LocalsBelow l m → LocalsBelow (with_second (Is a) i l) (with_second (Is a) i m)
second_below LongWord i l m h = written_below l m (suc i) Top Top h tt
second_below DoubleWord i l m h = written_below l m (suc i) Top Top h tt
second_below IntWord i l m h = h
second_below FloatWord i l m h = h
second_below UninitThis i l m h = h
second_below (Uninit n) i l m h = h

with_second_below : (s t : Slot) (i : ℕ) (l m : List Slot) → IsItemBelow s t → LocalsBelow l m → LocalsBelow (with_second s i l) (with_second t i m)
with_second_below Top Top i l m k h = h
with_second_below (Is a) Top i l m k h = absurd k
with_second_below (Reference a) Top i l m k h = absurd k
with_second_below Top (Is b) i l m k h = absurd k
with_second_below (Is a) (Is b) i l m k h =
    let P : Word → Type 0 = λ w. LocalsBelow (with_second (Is a) i l) (with_second (Is w) i m) in
    subst P k (second_below a i l m h)
with_second_below (Reference a) (Is b) i l m k h = absurd k
with_second_below Top (Reference b) i l m k h = absurd k
with_second_below (Is a) (Reference b) i l m k h = absurd k
with_second_below (Reference a) (Reference b) i l m k h = h

stored_below : (i : ℕ) (s t : Slot) (l m : List Slot) → IsItemBelow s t → LocalsBelow l m → LocalsBelow (stored i s l) (stored i t m)
stored_below i s t l m k h =
    with_second_below s t i _ _ k
    (written_below (cut_before i l) (cut_before i m) i s t (cut_before_below i l m h) (item_below s t k))

-- a change of each local variable
mapped_below : (f : Slot → Slot) → ((s t : Slot) → IsBelow s t → IsBelow (f s) (f t)) → ((t : Slot) → IsBelow Top t → IsBelow Top (f t)) → ((s : Slot) → IsBelow (f s) Top)
    → (l m : List Slot) → LocalsBelow l m → LocalsBelow (map f l) (map f m)
mapped_below f on first last [] [] h j = tt
mapped_below f on first last [] (y ∷ m) h zero = first y (h zero)
mapped_below f on first last [] (y ∷ m) h (suc j) = mapped_below f on first last [] m (λ n. h (suc n)) j
mapped_below f on first last (x ∷ l) [] h zero = tt
mapped_below f on first last (x ∷ l) [] h (suc j) = mapped_below f on first last l [] (λ n. h (suc n)) j
mapped_below f on first last (x ∷ l) (y ∷ m) h zero = on x y (h zero)
mapped_below f on first last (x ∷ l) (y ∷ m) h (suc j) = mapped_below f on first last l m (λ n. h (suc n)) j

mapped_stack : (f : Slot → Slot) → ((s t : Slot) → IsItemBelow s t → IsItemBelow (f s) (f t))
    → (s t : List Slot) → StackBelow s t → StackBelow (map f s) (map f t)
mapped_stack f on [] [] h = tt
mapped_stack f on [] (y ∷ t) h = absurd h
mapped_stack f on (x ∷ s) [] h = absurd h
mapped_stack f on (x ∷ s) (y ∷ t) h = (on x y h.0, mapped_stack f on s t h.1)

-- ---- names

from_map : (f : List ℕ → List ℕ) (names : List (List ℕ)) (n : List ℕ) → HasName (map f names) n → (o : List ℕ) × HasName names o × (f o ≡ n)
from_map f [] n h = absurd h
from_map f (x ∷ names) n (inl e) = (x, inl refl, e)
from_map f (x ∷ names) n (inr h) = let r = from_map f names n h in (r.0, inr r.1, r.2)

to_map : (f : List ℕ → List ℕ) (names : List (List ℕ)) (o : List ℕ) → HasName names o → HasName (map f names) (f o)
to_map f [] o h = absurd h
to_map f (x ∷ names) o (inl e) = inl (ap f e)
to_map f (x ∷ names) o (inr h) = inr (to_map f names o h)

map_names : (f : List ℕ → List ℕ) (few many : List (List ℕ)) → HasNames few many → HasNames (map f few) (map f many)
map_names f few many h n i =
    let r = from_map f few n i in
    let P : List ℕ → Type 0 = λ n. HasName (map f many) n in
    subst P r.2 (to_map f many r.0 (h r.0 r.1))

names_below : (s t : Slot) → IsItemBelow s t → HasNames (names_of s) (names_of t)
names_below Top t h n i = absurd i
names_below (Is a) t h n i = absurd i
names_below (Reference a) Top h n i = absurd h
names_below (Reference a) (Is b) h n i = absurd h
names_below (Reference a) (Reference b) h n i = h n i

kind_below : (k : Kind) (few many : List (List ℕ)) → HasNames few many → IsItemBelow (slot_of_kind k few) (slot_of_kind k many)
kind_below IntKind few many h = refl
kind_below LongKind few many h = refl
kind_below FloatKind few many h = refl
kind_below DoubleKind few many h = refl
kind_below ReferenceKind few many h = h

-- ---- actions

GivenBelow : Option Slot → Option Slot → Type 0
GivenBelow None None = Unit {0}
GivenBelow (Some s) (Some t) = IsItemBelow s t
GivenBelow None (Some t) = ⊥
GivenBelow (Some s) None = ⊥

given_self : (o : Option Slot) → GivenBelow o o
unfolding GivenBelow
given_self None = tt
given_self (Some s) = item_self s

given_below : (at : ℕ) (a : Action) (s t : List Slot) → StackBelow s t → GivenBelow (given at a s) (given at a t)
unfolding GivenBelow
given_below at (LoadElement e) s t h =
    kind_below (kind_of_element e) _ _
    (map_names component_name (names_of (top_item (below_top s))) (names_of (top_item (below_top t)))
    (names_below (top_item (below_top s)) (top_item (below_top t)) (top_below (below_top s) (below_top t) (rest_below s t h))))
given_below at a s t h = given_self (given at a s)

pushed_below : (o p : Option Slot) (s t : List Slot) → GivenBelow o p → StackBelow s t → StackBelow (pushed o s) (pushed p t)
unfolding GivenBelow
pushed_below None None s t g h = h
pushed_below None (Some y) s t g h = absurd g
pushed_below (Some x) None s t g h = absurd g
pushed_below (Some x) (Some y) s t g h = (g, h)

left_below : (at : ℕ) (a : Action) (l m : List Slot) → LocalsBelow l m → LocalsBelow (left_by at a l) (left_by at a m)
left_below at (New class) l m h = mapped_below (forgot at) (forgot_below at) (forgot_below at Top) (λ s. tt) l m h
left_below at a l m h = h

acted_below : (at : ℕ) (a : Action) (s t : Shape) → ShapeBelow s t → ShapeBelow (acted at a s) (acted at a t)
acted_below at a s t h =
    record {
      stack =
          pushed_below (given at a s.stack) (given at a t.stack) _ _ (given_below at a s.stack t.stack h.stack)
          (under_below (length (operands_of a)) s.stack t.stack h.stack);
      locals = left_below at a s.locals t.locals h.locals;
    }

constructed_below : (own named : List ℕ) (x y : Slot) (s t : Shape) → IsItemBelow x y → ShapeBelow s t → ShapeBelow (constructed own named x s) (constructed own named y t)
constructed_below own named Top Top s t k h = h
constructed_below own named (Is a) Top s t k h = absurd k
constructed_below own named (Reference a) Top s t k h = absurd k
constructed_below own named Top (Is b) s t k h = absurd k
constructed_below own named (Is a) (Is b) s t k h =
    let class = class_made own named a in
    let P : Word → Type 0 = λ w. ShapeBelow (constructed own named (Is a) s) (constructed own named (Is w) t) in
    subst P k
    (record {
      stack = mapped_stack (made a class) (made_item a class) s.stack t.stack h.stack;
      locals =
          mapped_below (made a class) (made_below a class) (made_below a class Top) (λ s. tt) s.locals t.locals h.locals;
    })
constructed_below own named (Reference a) (Is b) s t k h = absurd k
constructed_below own named Top (Reference b) s t k h = absurd k
constructed_below own named (Is a) (Reference b) s t k h = absurd k
constructed_below own named (Reference a) (Reference b) s t k h = h

act_below : (own : List ℕ) (at : ℕ) (a : Action) (call : Option (List ℕ × ℕ)) (s t : Shape) → ShapeBelow s t → ShapeBelow (act_flow own at a call s) (act_flow own at a call t)
act_below own at a None s t h = acted_below at a s t h
act_below own at a (Some call) s t h =
    let under = under_below call.1 s.stack t.stack h.stack in
    constructed_below own call.0 (top_item (under_items call.1 s.stack)) (top_item (under_items call.1 t.stack)) _ _ (top_below _ _ under)
    (record {
      stack = rest_below (under_items call.1 s.stack) (under_items call.1 t.stack) under;
      locals = h.locals;
    })

-- ---- what serves

reference_meets : (w : Want) (few many : List (List ℕ)) → Meets w (Reference many) → Meets w (Reference few)
reference_meets (Wants IntKind) few many h = h
reference_meets (Wants LongKind) few many h = h
reference_meets (Wants FloatKind) few many h = h
reference_meets (Wants DoubleKind) few many h = h
reference_meets (Wants ReferenceKind) few many h = h
reference_meets WantsAny few many h = h
reference_meets WantsThis few many h = h

top_meets : (w : Want) → Meets w Top → ⊥
top_meets (Wants IntKind) h = h
top_meets (Wants LongKind) h = h
top_meets (Wants FloatKind) h = h
top_meets (Wants DoubleKind) h = h
top_meets (Wants ReferenceKind) h = h
top_meets WantsAny h = h
top_meets WantsThis h = h

word_meets : (w : Want) (a b : Word) → a ≡ b → Meets w (Is b) → Meets w (Is a)
word_meets w a b e h =
    let P : Word → Type 0 = λ v. Meets w (Is v) in
    subst P (sym e) h

meets_below : (w : Want) (s t : Slot) → IsBelow s t → Meets w t → Meets w s
meets_below w s Top h m = absurd (top_meets w m)
meets_below w Top (Is b) h m = absurd h
meets_below w (Is a) (Is b) h m = word_meets w a b h m
meets_below w (Reference a) (Is b) h m = absurd h
meets_below w Top (Reference b) h m = absurd h
meets_below w (Is a) (Reference b) h m = absurd h
meets_below w (Reference a) (Reference b) h m = reference_meets w a b m

met_item : (w : Want) (s t : Slot) → IsBelow s t → Meets w t → IsItemBelow s t
met_item w s Top h m = absurd (top_meets w m)
met_item w Top (Is b) h m = absurd h
met_item w (Is a) (Is b) h m = h
met_item w (Reference a) (Is b) h m = absurd h
met_item w Top (Reference b) h m = absurd h
met_item w (Is a) (Reference b) h m = absurd h
met_item w (Reference a) (Reference b) h m = h

stack_meets : (ws : List Want) (s t : List Slot) → StackBelow s t → StackMeets ws t → StackMeets ws s
stack_meets [] s t h m = tt
stack_meets (w ∷ ws) [] [] h m = absurd m
stack_meets (w ∷ ws) [] (y ∷ t) h m = absurd h
stack_meets (w ∷ ws) (x ∷ s) [] h m = absurd h
stack_meets (w ∷ ws) (x ∷ s) (y ∷ t) h m = (meets_below w x y (item_below x y h.0) m.0, stack_meets ws s t h.1 m.1)

item_there : (s t : Slot) → IsItemBelow s t → IsItem t → IsItem s
item_there Top Top h i = i
item_there Top (Is b) h i = absurd h
item_there Top (Reference b) h i = absurd h
item_there (Is a) t h i = tt
item_there (Reference a) t h i = tt

has_places : (p : ℕ) (s t : List Slot) → StackBelow s t → HasPlaces p t → HasPlaces p s
has_places zero [] t h k = tt
has_places zero (x ∷ s) t h k = tt
has_places (suc p) [] [] h k = absurd k
has_places (suc p) [] (y ∷ t) h k = absurd h
has_places (suc p) (x ∷ s) [] h k = absurd h
has_places (suc p) (x ∷ s) (y ∷ t) h k =
    let e = sym (width_same x y h.0) in
    let P : ℕ → Type 0 = λ w. w ≤ suc p in
    let Q : ℕ → Type 0 = λ w. HasPlaces (suc p - w) t in
    (item_there x y h.0 k.0, subst P e k.1, has_places (suc p - width x) s t h.1 (subst Q e k.2))

target_below : (ops : List Operation) (class : List ℕ) (s t : Slot) → IsItemBelow s t → IsTarget ops class t → IsTarget ops class s
target_below ops class Top Top h k = k
target_below ops class (Is a) Top h k = absurd k
target_below ops class (Reference a) Top h k = absurd k
target_below ops class Top (Is b) h k = absurd h
target_below ops class (Is a) (Is b) h k =
    let P : Word → Type 0 = λ w. IsTarget ops class (Is w) in
    subst P (sym h) k
target_below ops class (Reference a) (Is b) h k = absurd h
target_below ops class s (Reference b) h k = absurd k

not_made : (at : ℕ) (s t : Slot) → IsItemBelow s t → IsNotMade at t → IsNotMade at s
not_made at Top t h k = tt
not_made at (Is a) Top h k = absurd h
not_made at (Is a) (Is b) h k = λ e. k (sym h ∙ e)
not_made at (Is a) (Reference b) h k = absurd h
not_made at (Reference a) t h k = tt

none_made : (at : ℕ) (s t : List Slot) → StackBelow s t → AllByRecursion (IsNotMade at) t → AllByRecursion (IsNotMade at) s
none_made at [] t h k = tt
none_made at (x ∷ s) [] h k = absurd h
none_made at (x ∷ s) (y ∷ t) h k = (not_made at x y h.0 k.0, none_made at s t h.1 k.1)

serves_new : (at : ℕ) (a : Action) (s t : List Slot) → StackBelow s t → ServesNew at a t → ServesNew at a s
serves_new at (New class) s t h k = none_made at s t h k
serves_new at a s t h k = tt

serves_act : (ops : List Operation) (at : ℕ) (a : Action) (call : Option (List ℕ × ℕ)) (s t : List Slot) → StackBelow s t → ServesAct ops at a call t → ServesAct ops at a call s
serves_act ops at a None s t h k = (stack_meets (reverse (wants_of a)) s t h k.0, serves_new at a s t h k.1)
serves_act ops at a (Some call) s t h k = (
  stack_meets (reverse (wants_of_parameters a)) s t h k.0,
  target_below ops call.0 (top_item (under_items call.1 s)) (top_item (under_items call.1 t)) (top_below _ _ (under_below call.1 s t h)) k.1,
)

serves_basic : (ops : List Operation) (at : ℕ) (b : Basic) (s t : List Slot) → StackBelow s t → ServesBasic ops at b t → ServesBasic ops at b s
serves_basic ops at Nop s t h k = tt
serves_basic ops at (Push v) s t h k = tt
serves_basic ops at (Drop p) s t h k = has_places p s t h k
serves_basic ops at (Copy p d) s t h k =
    (has_places p s t h k.0, has_places d (under_places p s) (under_places p t) (behind_below p s t h) k.1)
serves_basic ops at Swap s t h k = (has_places 1 s t h k.0, has_places 1 (below_top s) (below_top t) (rest_below s t h) k.1)
serves_basic ops at (Act a) s t h k = serves_act ops at a (constructor a) s t h k
serves_basic ops at Throw s t h k = stack_meets (Wants ReferenceKind ∷ []) s t h k

-- ---- the whole

pub serves_below : (ops : List Operation) (at : ℕ) (o : Operation) (s t : Shape) → ShapeBelow s t → ServesOperation ops at o t → ServesOperation ops at o s
serves_below ops at (Do b) s t h k = serves_basic ops at b s.stack t.stack h.stack k
serves_below ops at (Load kind slot) s t h k = meets_below (moved kind) (local_at s.locals slot) (local_at t.locals slot) (h.locals slot) k
serves_below ops at (Store kind slot) s t h k = stack_meets (moved kind ∷ []) s.stack t.stack h.stack k
serves_below ops at (Increment slot by) s t h k = meets_below (Wants IntKind) (local_at s.locals slot) (local_at t.locals slot) (h.locals slot) k
serves_below ops at (Branch c target) s t h k = stack_meets (reverse (wants_of_condition c)) s.stack t.stack h.stack k
serves_below ops at (Goto target) s t h k = tt
serves_below ops at (Switch cases fallback) s t h k = stack_meets (Wants IntKind ∷ []) s.stack t.stack h.stack k
serves_below ops at (Return kind) s t h k = stack_meets (wants_of_return kind) s.stack t.stack h.stack k

stack_only : (s t : Shape) (a b : List Slot) → ShapeBelow s t → StackBelow a b → ShapeBelow (shape_of a s.locals) (shape_of b t.locals)
stack_only s t a b h k = record { stack = k; locals = h.locals }

basic_below : (own : List ℕ) (at : ℕ) (b : Basic) (s t : Shape) → ShapeBelow s t → ShapeBelow (flow_basic own at b s) (flow_basic own at b t)
basic_below own at Nop s t h = h
basic_below own at (Push v) s t h = stack_only s t _ _ h (item_self _, h.stack)
basic_below own at (Drop p) s t h = stack_only s t _ _ h (behind_below p s.stack t.stack h.stack)
basic_below own at (Copy p d) s t h = stack_only s t _ _ h (copied_below p d s.stack t.stack h.stack)
basic_below own at Swap s t h =
    let rest = rest_below s.stack t.stack h.stack in
    stack_only s t _ _ h (
      top_below (below_top s.stack) (below_top t.stack) rest,
      (top_below s.stack t.stack h.stack, rest_below (below_top s.stack) (below_top t.stack) rest),
    )
basic_below own at (Act a) s t h = act_below own at a (constructor a) s t h
basic_below own at Throw s t h = stack_only s t _ _ h (rest_below s.stack t.stack h.stack)

pub flow_below : (own : List ℕ) (ops : List Operation) (at : ℕ) (o : Operation) (s t : Shape) → ServesOperation ops at o t → ShapeBelow s t → ShapeBelow (flow own at o s) (flow own at o t)
flow_below own ops at (Do b) s t k h = basic_below own at b s t h
flow_below own ops at (Load kind slot) s t k h =
    stack_only s t _ _ h (met_item (moved kind) (local_at s.locals slot) (local_at t.locals slot) (h.locals slot) k, h.stack)
flow_below own ops at (Store kind slot) s t k h =
    record {
      stack = rest_below s.stack t.stack h.stack;
      locals =
          stored_below slot (top_item s.stack) (top_item t.stack) s.locals t.locals (top_below s.stack t.stack h.stack) h.locals;
    }
flow_below own ops at (Increment slot by) s t k h = h
flow_below own ops at (Branch c target) s t k h = stack_only s t _ _ h (under_below (length (condition_operands c)) s.stack t.stack h.stack)
flow_below own ops at (Goto target) s t k h = h
flow_below own ops at (Switch cases fallback) s t k h = stack_only s t _ _ h (rest_below s.stack t.stack h.stack)
flow_below own ops at (Return None) s t k h = h
flow_below own ops at (Return (Some kind)) s t k h = stack_only s t _ _ h (rest_below s.stack t.stack h.stack)
