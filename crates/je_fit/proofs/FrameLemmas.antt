-- Frames that have shapes: stacks item by item, local variables by their indexes.
use Rattle.std.proofs.Common.{◌≡◌, ℕ, zero, suc, ◌-◌, List, [], ◌∷◌, ◌++◌, length, map, Bool, true, false, ◌&&◌, refl, subst}
use Rattle.std.specs.Prelude.{IsTrue, pos, if◌then◌else◌}
use Rattle.je_machine.specs.Value.{Kind, IntKind, LongKind, FloatKind, DoubleKind, ReferenceKind, Value, Int, Long, Dbl, is_of_kind, places_of, value_at}
use Rattle.je_machine.specs.Operation.{Operation}
use Rattle.je_machine.specs.Frame.{Frame, top, below, under, top_places as values_in, under_places as values_under, copied as copied_values, with_local}
use Rattle.je_machine.proofs.OutsideLemmas.{first_holds, second_holds}
use Rattle.je_shape.specs.Slot.{Word, IntWord, FloatWord, LongWord, DoubleWord, UninitThis, Uninit, Slot, Top, Is, Reference, is_same_word}
use Rattle.je_shape.specs.Shape.{Shape, local_at}
use Rattle.je_shape.specs.Flow.{slot_of_kind, top_item, below_top, under_items, width, width_of_word, top_places, under_places, copied, with_slot, cut, cut_before, with_second, stored, forgot, made, class_made, constructed}
use Rattle.je_shape.specs.Serves.{Want, Wants, WantsAny, WantsThis, IsOfKind, Meets, IsTarget}
use Rattle.je_fit.specs.Fits.{kind_of_word, fits, fits_item, fits_stack, fits_locals, fits_shape}

-- ---- tests

pub both : (b c : Bool) → b ≡ true → c ≡ true → b && c ≡ true
both true c h k = k
both false c h k = absurd cc

-- ---- a frame as facts of each item and each index

abbrev pub StackFits : List Slot → List Value → Type 0
StackFits [] [] = Unit {0}
StackFits (x ∷ s) (v ∷ st) = IsTrue (fits_item x v) × StackFits s st
StackFits _ _ = ⊥

-- local variables of any values by their indexes
abbrev pub Locals : List Slot → (ℕ → Value) → Type 0
Locals l at = (i : ℕ) → IsTrue (fits (local_at l i) (at i))

abbrev pub LocalsFit : List Slot → List Value → Type 0
LocalsFit l vs = Locals l (value_at vs)

pub record FrameFits (s : Shape) (f : Frame) : Type 0 where
  pub stack : StackFits s.stack f.stack
  pub locals : LocalsFit s.locals f.locals

pub to_stack : (s : List Slot) (st : List Value) → fits_stack s st ≡ true → StackFits s st
to_stack [] [] h = tt
to_stack [] (v ∷ st) h = absurd cc
to_stack (x ∷ s) [] h = absurd cc
to_stack (x ∷ s) (v ∷ st) h =
    (first_holds (fits_item x v) (fits_stack s st) h, to_stack s st (second_holds (fits_item x v) (fits_stack s st) h))

pub from_stack : (s : List Slot) (st : List Value) → StackFits s st → fits_stack s st ≡ true
from_stack [] [] h = refl
from_stack [] (v ∷ st) h = absurd h
from_stack (x ∷ s) [] h = absurd h
from_stack (x ∷ s) (v ∷ st) h = both (fits_item x v) (fits_stack s st) h.0 (from_stack s st h.1)

pub to_locals : (l : List Slot) (vs : List Value) → fits_locals l vs ≡ true → LocalsFit l vs
to_locals [] vs h i = refl
to_locals (x ∷ l) [] h zero = first_holds (fits x (Int (pos 0))) (fits_locals l []) h
to_locals (x ∷ l) [] h (suc i) = to_locals l [] (second_holds (fits x (Int (pos 0))) (fits_locals l []) h) i
to_locals (x ∷ l) (v ∷ vs) h zero = first_holds (fits x v) (fits_locals l vs) h
to_locals (x ∷ l) (v ∷ vs) h (suc i) = to_locals l vs (second_holds (fits x v) (fits_locals l vs) h) i

pub from_locals : (l : List Slot) (vs : List Value) → LocalsFit l vs → fits_locals l vs ≡ true
from_locals [] vs h = refl
from_locals (x ∷ l) [] h = both (fits x (Int (pos 0))) (fits_locals l []) (h zero) (from_locals l [] (λ i. h (suc i)))
from_locals (x ∷ l) (v ∷ vs) h = both (fits x v) (fits_locals l vs) (h zero) (from_locals l vs (λ i. h (suc i)))

pub to_frame : (s : Shape) (f : Frame) → fits_shape s f ≡ true → FrameFits s f
to_frame s f h =
    record {
      stack = to_stack s.stack f.stack (first_holds (fits_stack s.stack f.stack) (fits_locals s.locals f.locals) h);
      locals = to_locals s.locals f.locals (second_holds (fits_stack s.stack f.stack) (fits_locals s.locals f.locals) h);
    }

pub from_frame : (s : Shape) (f : Frame) → FrameFits s f → fits_shape s f ≡ true
from_frame s f h =
    both (fits_stack s.stack f.stack) (fits_locals s.locals f.locals) (from_stack s.stack f.stack h.stack) (from_locals s.locals f.locals h.locals)

-- ---- slots

pub item_fits : (s : Slot) (v : Value) → IsTrue (fits_item s v) → IsTrue (fits s v)
item_fits Top v h = refl
item_fits (Is w) v h = h
item_fits (Reference names) v h = h

top_meets : (w : Want) → Meets w Top → ⊥
top_meets (Wants IntKind) h = h
top_meets (Wants LongKind) h = h
top_meets (Wants FloatKind) h = h
top_meets (Wants DoubleKind) h = h
top_meets (Wants ReferenceKind) h = h
top_meets WantsAny h = h
top_meets WantsThis h = h

-- what is wanted is no Top
pub met_fits : (w : Want) (s : Slot) (v : Value) → Meets w s → IsTrue (fits s v) → IsTrue (fits_item s v)
met_fits w Top v m h = absurd (top_meets w m)
met_fits w (Is word) v m h = h
met_fits w (Reference names) v m h = h

pub kind_fits : (k : Kind) (names : List (List ℕ)) (v : Value) → IsTrue (is_of_kind k v) → IsTrue (fits_item (slot_of_kind k names) v)
kind_fits IntKind names v h = h
kind_fits LongKind names v h = h
kind_fits FloatKind names v h = h
kind_fits DoubleKind names v h = h
kind_fits ReferenceKind names v h = h

-- a slot of a kind has the values of the kind, and no others
pub of_kind : (k : Kind) (s : Slot) → IsOfKind k s → (v : Value) → fits s v ≡ is_of_kind k v
of_kind IntKind (Is IntWord) m v = refl
of_kind LongKind (Is LongWord) m v = refl
of_kind FloatKind (Is FloatWord) m v = refl
of_kind DoubleKind (Is DoubleWord) m v = refl
of_kind ReferenceKind (Reference names) m v = refl
of_kind _ _ m v = absurd m

-- ---- widths

kind_places : (w : Word) (v : Value) → IsTrue (is_of_kind (kind_of_word w) v) → width_of_word w ≡ places_of v
kind_places LongWord (Long n) h = refl
kind_places LongWord v h = absurd cc
kind_places DoubleWord (Dbl n) h = refl
kind_places DoubleWord v h = absurd cc
kind_places w (Long n) h = absurd cc
kind_places w (Dbl n) h = absurd cc
kind_places w v h = refl

reference_places : (v : Value) → IsTrue (is_of_kind ReferenceKind v) → 1 ≡ places_of v
reference_places (Long n) h = absurd cc
reference_places (Dbl n) h = absurd cc
reference_places v h = refl

width_places : (s : Slot) (v : Value) → IsTrue (fits_item s v) → width s ≡ places_of v
width_places Top v h = absurd cc
width_places (Is w) v h = kind_places w v h
width_places (Reference names) v h = reference_places v h

-- ---- the stack

pub top_fits : (s : List Slot) (st : List Value) → StackFits s st → IsTrue (fits (top_item s) (top st))
top_fits [] st h = refl
top_fits (x ∷ s) [] h = absurd h
top_fits (x ∷ s) (v ∷ st) h = item_fits x v h.0

pub below_fits : (s : List Slot) (st : List Value) → StackFits s st → StackFits (below_top s) (below st)
below_fits [] [] h = tt
below_fits [] (v ∷ st) h = absurd h
below_fits (x ∷ s) [] h = absurd h
below_fits (x ∷ s) (v ∷ st) h = h.1

pub under_fits : (n : ℕ) (s : List Slot) (st : List Value) → StackFits s st → StackFits (under_items n s) (under n st)
under_fits zero s st h = h
under_fits (suc n) s st h = under_fits n (below_top s) (below st) (below_fits s st h)

-- under the target of a call
pub under_target : (n : ℕ) (s : List Slot) (st : List Value) → StackFits s st → StackFits (below_top (under_items n s)) (under (suc n) st)
under_target zero s st h = below_fits s st h
under_target (suc n) s st h = under_target n (below_top s) (below st) (below_fits s st h)

in_places : (p : ℕ) (s : List Slot) (st : List Value) → StackFits s st → StackFits (top_places p s) (values_in p st)
in_places zero [] [] h = tt
in_places (suc p) [] [] h = tt
in_places p [] (v ∷ st) h = absurd h
in_places p (x ∷ s) [] h = absurd h
in_places zero (x ∷ s) (v ∷ st) h = tt
in_places (suc p) (x ∷ s) (v ∷ st) h =
    let P : ℕ → Type 0 = λ w. StackFits (top_places (suc p - width x) s) (values_in (suc p - w) st) in
    (h.0, subst P (width_places x v h.0) (in_places (suc p - width x) s st h.1))

pub behind_places : (p : ℕ) (s : List Slot) (st : List Value) → StackFits s st → StackFits (under_places p s) (values_under p st)
behind_places zero [] [] h = tt
behind_places (suc p) [] [] h = tt
behind_places p [] (v ∷ st) h = absurd h
behind_places p (x ∷ s) [] h = absurd h
behind_places zero (x ∷ s) (v ∷ st) h = h
behind_places (suc p) (x ∷ s) (v ∷ st) h =
    let P : ℕ → Type 0 = λ w. StackFits (under_places (suc p - width x) s) (values_under (suc p - w) st) in
    subst P (width_places x v h.0) (behind_places (suc p - width x) s st h.1)

joined_fits : (a : List Slot) (b : List Value) (c : List Slot) (d : List Value) → StackFits a b → StackFits c d → StackFits (a ++ c) (b ++ d)
joined_fits [] [] c d h k = k
joined_fits [] (v ∷ b) c d h k = absurd h
joined_fits (x ∷ a) [] c d h k = absurd h
joined_fits (x ∷ a) (v ∷ b) c d h k = (h.0, joined_fits a b c d h.1 k)

pub copied_fits : (p d : ℕ) (s : List Slot) (st : List Value) → StackFits s st → StackFits (copied p d s) (copied_values p d st)
copied_fits p d s st h =
    let first = in_places p s st h in
    let rest = behind_places p s st h in
    joined_fits (top_places p s) (values_in p st) _ _ first
    (joined_fits (top_places d (under_places p s)) (values_in d (values_under p st)) _ _ (in_places d (under_places p s) (values_under p st) rest)
    (joined_fits (top_places p s) (values_in p st) _ _ first (behind_places d (under_places p s) (values_under p st) rest)))

pub depth_fits : (s : List Slot) (st : List Value) → StackFits s st → length st ≡ length s
depth_fits [] [] h = refl
depth_fits [] (v ∷ st) h = absurd h
depth_fits (x ∷ s) [] h = absurd h
depth_fits (x ∷ s) (v ∷ st) h = let e = depth_fits s st h.1 in cc

-- ---- local variables

written_fits : (l : List Slot) (vs : List Value) (i : ℕ) (s : Slot) (v : Value) → LocalsFit l vs → IsTrue (fits s v) → LocalsFit (with_slot l i s) (with_local vs i v)
written_fits [] [] zero s v h k zero = k
written_fits [] [] zero s v h k (suc j) = refl
written_fits [] [] (suc i) s v h k zero = refl
written_fits [] [] (suc i) s v h k (suc j) = written_fits [] [] i s v (λ n. refl) k j
written_fits [] (y ∷ vs) zero s v h k zero = k
written_fits [] (y ∷ vs) zero s v h k (suc j) = refl
written_fits [] (y ∷ vs) (suc i) s v h k zero = refl
written_fits [] (y ∷ vs) (suc i) s v h k (suc j) = written_fits [] vs i s v (λ n. refl) k j
written_fits (x ∷ l) [] zero s v h k zero = k
written_fits (x ∷ l) [] zero s v h k (suc j) = h (suc j)
written_fits (x ∷ l) [] (suc i) s v h k zero = h zero
written_fits (x ∷ l) [] (suc i) s v h k (suc j) = written_fits l [] i s v (λ n. h (suc n)) k j
written_fits (x ∷ l) (y ∷ vs) zero s v h k zero = k
written_fits (x ∷ l) (y ∷ vs) zero s v h k (suc j) = h (suc j)
written_fits (x ∷ l) (y ∷ vs) (suc i) s v h k zero = h zero
written_fits (x ∷ l) (y ∷ vs) (suc i) s v h k (suc j) = written_fits l vs i s v (λ n. h (suc n)) k j

-- a value in the place of one of the same slot
pub updated_fits : (l : List Slot) (vs : List Value) (i : ℕ) (v : Value) → LocalsFit l vs → IsTrue (fits (local_at l i) v) → LocalsFit l (with_local vs i v)
updated_fits [] vs i v h k j = refl
updated_fits (x ∷ l) [] zero v h k zero = k
updated_fits (x ∷ l) [] zero v h k (suc j) = h (suc j)
updated_fits (x ∷ l) [] (suc i) v h k zero = h zero
updated_fits (x ∷ l) [] (suc i) v h k (suc j) = updated_fits l [] i v (λ n. h (suc n)) k j
updated_fits (x ∷ l) (y ∷ vs) zero v h k zero = k
updated_fits (x ∷ l) (y ∷ vs) zero v h k (suc j) = h (suc j)
updated_fits (x ∷ l) (y ∷ vs) (suc i) v h k zero = h zero
updated_fits (x ∷ l) (y ∷ vs) (suc i) v h k (suc j) = updated_fits l vs i v (λ n. h (suc n)) k j

-- a slot in the place of another, over the same values
replaced_fits : (l : List Slot) (at : ℕ → Value) (i : ℕ) (t : Slot) → Locals l at → IsTrue (fits t (at i)) → Locals (with_slot l i t) at
replaced_fits [] at zero t h k zero = k
replaced_fits [] at zero t h k (suc j) = refl
replaced_fits [] at (suc i) t h k zero = refl
replaced_fits [] at (suc i) t h k (suc j) = replaced_fits [] (λ n. at (suc n)) i t (λ n. refl) k j
replaced_fits (x ∷ l) at zero t h k zero = k
replaced_fits (x ∷ l) at zero t h k (suc j) = h (suc j)
replaced_fits (x ∷ l) at (suc i) t h k zero = h zero
replaced_fits (x ∷ l) at (suc i) t h k (suc j) = replaced_fits l (λ n. at (suc n)) i t (λ n. h (suc n)) k j

cut_fits : (s : Slot) (v : Value) → IsTrue (fits s v) → IsTrue (fits (cut s) v)
cut_fits Top v h = refl
cut_fits (Is LongWord) v h = refl
cut_fits (Is DoubleWord) v h = refl
cut_fits (Is IntWord) v h = h
cut_fits (Is FloatWord) v h = h
cut_fits (Is UninitThis) v h = h
cut_fits (Is (Uninit n)) v h = h
cut_fits (Reference names) v h = h

cut_before_fits : (i : ℕ) (l : List Slot) (vs : List Value) → LocalsFit l vs → LocalsFit (cut_before i l) vs
cut_before_fits zero l vs h = h
cut_before_fits (suc i) l vs h = replaced_fits l (value_at vs) i (cut (local_at l i)) h (cut_fits (local_at l i) (value_at vs i) (h i))

second_fits : (s : Slot) (i : ℕ) (l : List Slot) (vs : List Value) → LocalsFit l vs → LocalsFit (with_second s i l) vs
second_fits Top i l vs h = h
second_fits (Is LongWord) i l vs h = replaced_fits l (value_at vs) (suc i) Top h refl
second_fits (Is DoubleWord) i l vs h = replaced_fits l (value_at vs) (suc i) Top h refl
second_fits (Is IntWord) i l vs h = h
second_fits (Is FloatWord) i l vs h = h
second_fits (Is UninitThis) i l vs h = h
second_fits (Is (Uninit n)) i l vs h = h
second_fits (Reference names) i l vs h = h

pub stored_fits : (i : ℕ) (s : Slot) (v : Value) (l : List Slot) (vs : List Value) → LocalsFit l vs → IsTrue (fits s v) → LocalsFit (stored i s l) (with_local vs i v)
stored_fits i s v l vs h k =
    second_fits s i (with_slot (cut_before i l) i s) (with_local vs i v) (written_fits (cut_before i l) vs i s v (cut_before_fits i l vs h) k)

-- ---- all slots changed

pub mapped_locals : (f : Slot → Slot) → ((s : Slot) (v : Value) → IsTrue (fits s v) → IsTrue (fits (f s) v)) → (l : List Slot) (at : ℕ → Value) → Locals l at → Locals (map f l) at
mapped_locals f on [] at h i = refl
mapped_locals f on (x ∷ l) at h zero = on x (at zero) (h zero)
mapped_locals f on (x ∷ l) at h (suc i) = mapped_locals f on l (λ n. at (suc n)) (λ n. h (suc n)) i

mapped_stack : (f : Slot → Slot) → ((s : Slot) (v : Value) → IsTrue (fits_item s v) → IsTrue (fits_item (f s) v)) → (s : List Slot) (st : List Value) → StackFits s st → StackFits (map f s) st
mapped_stack f on [] [] h = tt
mapped_stack f on [] (v ∷ st) h = absurd h
mapped_stack f on (x ∷ s) [] h = absurd h
mapped_stack f on (x ∷ s) (v ∷ st) h = (on x v h.0, mapped_stack f on s st h.1)

either_fits : (b : Bool) (s t : Slot) (v : Value) → IsTrue (fits s v) → IsTrue (fits t v) → IsTrue (fits (if b then s else t) v)
either_fits true s t v h k = h
either_fits false s t v h k = k

-- a local variable that a `new` makes Top
pub forgot_fits : (at : ℕ) (s : Slot) (v : Value) → IsTrue (fits s v) → IsTrue (fits (forgot at s) v)
forgot_fits at Top v h = refl
forgot_fits at (Is w) v h = either_fits (is_same_word (Uninit at) w) Top (Is w) v refl h
forgot_fits at (Reference names) v h = h

-- ---- constructors

-- what waits for its constructor is a reference
either_made : (b : Bool) (names : List (List ℕ)) (w : Word) (v : Value) → kind_of_word w ≡ ReferenceKind → IsTrue (fits_item (Is w) v)
    → IsTrue (fits_item (if b then Reference names else Is w) v)
either_made true names w v e h = subst (λ k. IsTrue (is_of_kind k v)) e h
either_made false names w v e h = h

word_made : (ops : List Operation) (named : List ℕ) (w : Word) (class : List ℕ) (other : Word) (v : Value) → IsTarget ops named (Is w) → IsTrue (fits_item (Is other) v)
    → IsTrue (fits_item (made w class (Is other)) v)
word_made ops named UninitThis class UninitThis v k h = h
word_made ops named UninitThis class other v k h = h
word_made ops named (Uninit n) class (Uninit m) v k h = either_made (is_same_word (Uninit n) (Uninit m)) (class ∷ []) (Uninit m) v refl h
word_made ops named (Uninit n) class other v k h = h
word_made ops named w class other v k h = absurd k

item_made : (ops : List Operation) (named : List ℕ) (w : Word) (class : List ℕ) → IsTarget ops named (Is w) → (s : Slot) (v : Value) → IsTrue (fits_item s v)
    → IsTrue (fits_item (made w class s) v)
item_made ops named w class k Top v h = h
item_made ops named w class k (Is other) v h = word_made ops named w class other v k h
item_made ops named w class k (Reference names) v h = h

local_made : (ops : List Operation) (named : List ℕ) (w : Word) (class : List ℕ) → IsTarget ops named (Is w) → (s : Slot) (v : Value) → IsTrue (fits s v)
    → IsTrue (fits (made w class s) v)
local_made ops named w class k Top v h = refl
local_made ops named w class k (Is other) v h = item_fits (made w class (Is other)) v (word_made ops named w class other v k h)
local_made ops named w class k (Reference names) v h = h

pub constructed_fits : (ops : List Operation) (own named : List ℕ) (x : Slot) (s : Shape) (f : Frame) → IsTarget ops named x → FrameFits s f → FrameFits (constructed own named x s) f
constructed_fits ops own named Top s f k h = absurd k
constructed_fits ops own named (Reference names) s f k h = absurd k
constructed_fits ops own named (Is w) s f k h =
    let class = class_made own named w in
    record {
      stack = mapped_stack (made w class) (item_made ops named w class k) s.stack f.stack h.stack;
      locals = mapped_locals (made w class) (local_made ops named w class k) s.locals (value_at f.locals) h.locals;
    }
