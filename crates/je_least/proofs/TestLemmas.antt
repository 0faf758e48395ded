-- A test of two lists of local variables, one after the other: what is left passes as the whole does.
use Rattle.std.proofs.Common.{◌≡◌, ℕ, zero, suc, List, [], ◌∷◌, map, length, refl, sym, subst, false, true}
use Rattle.std.specs.Prelude.{◌↔◌, IsTrue}
use Rattle.std.proofs.lemmas.Bool.{false≢true}
use Rattle.je_shape.specs.declared.slot.Slot as program
use Rattle.je_shape.specs.Slot.{Slot, Top, Is, Reference, IsBelow}
use Rattle.je_shape.specs.Shape.{local_at}
use Rattle.je_shape.specs.Least.{LocalAgrees}
use Rattle.je_shape.specs.Views.{slot_seen}
use Rattle.je_shape.proofs.WalkLemmas.{none_left}

abbrev Each : (Slot → Slot → Type 0) → List Slot → List Slot → Type 0
Each R a b = (slot : ℕ) → R (local_at a slot) (local_at b slot)

abbrev all : List program.Slot → List Slot
all slots = map slot_seen slots

-- it holds of Top alone where it holds behind the last local variable
pub record IsLocalTest (R : Slot → Slot → Type 0) : Type 0 where
  pub top : (s : Slot) → R s Top
  pub only : (s : Slot) → R Top s → s ≡ Top

cons : (R : Slot → Slot → Type 0) (x y : Slot) (xs ys : List Slot) → R x y → Each R xs ys → Each R (x ∷ xs) (y ∷ ys)
cons R x y xs ys h k zero = h
cons R x y xs ys h k (suc i) = k i

none : (R : Slot → Slot → Type 0) (y : Slot) (ys : List Slot) → R Top y → Each R [] ys → Each R [] (y ∷ ys)
none R y ys h k zero = h
none R y ys h k (suc i) = k i

pub each_stops : (R : Slot → Slot → Type 0) (a b left right xs ys : List program.Slot) (x y : program.Slot) → right ≡ y ∷ ys → left ≡ x ∷ xs
    → (IsTrue false ↔ R (slot_seen x) (slot_seen y)) → (Each R (all left) (all right) ↔ Each R (all a) (all b)) → (IsTrue false ↔ Each R (all a) (all b))
each_stops R a b left right xs ys x y e f t h =
    let P : List program.Slot → Type 0 = λ l. Each R (all l) (all right) ↔ Each R (all a) (all b) in
    let Q : List program.Slot → Type 0 = λ r. Each R (all (x ∷ xs)) (all r) ↔ Each R (all a) (all b) in
    let k = subst Q e (subst P f h) in
    (λ n. absurd (false≢true n), λ w. t.1 (k.1 w zero))

pub each_later : (R : Slot → Slot → Type 0) (a b left right xs ys : List program.Slot) (x y : program.Slot) → right ≡ y ∷ ys → left ≡ x ∷ xs
    → (IsTrue true ↔ R (slot_seen x) (slot_seen y)) → (Each R (all left) (all right) ↔ Each R (all a) (all b)) → (Each R (all xs) (all ys) ↔ Each R (all a) (all b))
each_later R a b left right xs ys x y e f t h =
    let P : List program.Slot → Type 0 = λ l. Each R (all l) (all right) ↔ Each R (all a) (all b) in
    let Q : List program.Slot → Type 0 = λ r. Each R (all (x ∷ xs)) (all r) ↔ Each R (all a) (all b) in
    let k = subst Q e (subst P f h) in
    (λ w. k.0 (cons R (slot_seen x) (slot_seen y) (all xs) (all ys) (t.0 refl) w), λ w i. k.1 w (suc i))

pub ended_stops : (R : Slot → Slot → Type 0) → IsLocalTest R → (a b left right ys : List program.Slot) (y : program.Slot) → right ≡ y ∷ ys → length left ≡ 0
    → (IsTrue false ↔ slot_seen y ≡ Top) → (Each R (all left) (all right) ↔ Each R (all a) (all b)) → (IsTrue false ↔ Each R (all a) (all b))
ended_stops R top a b left right ys y e n t h =
    let P : List program.Slot → Type 0 = λ l. Each R (all l) (all right) ↔ Each R (all a) (all b) in
    let Q : List program.Slot → Type 0 = λ r. Each R [] (all r) ↔ Each R (all a) (all b) in
    let k = subst Q e (subst P (none_left left n) h) in
    (λ w. absurd (false≢true w), λ w. t.1 (top.only (slot_seen y) (k.1 w zero)))

pub ended_later : (R : Slot → Slot → Type 0) → IsLocalTest R → (a b left right ys : List program.Slot) (y : program.Slot) → right ≡ y ∷ ys → length left ≡ 0
    → (IsTrue true ↔ slot_seen y ≡ Top) → (Each R (all left) (all right) ↔ Each R (all a) (all b)) → (Each R (all left) (all ys) ↔ Each R (all a) (all b))
ended_later R top a b left right ys y e n t h =
    let P : List program.Slot → Type 0 = λ l. Each R (all l) (all right) ↔ Each R (all a) (all b) in
    let Q : List program.Slot → Type 0 = λ r. Each R [] (all r) ↔ Each R (all a) (all b) in
    let k = subst Q e (subst P (none_left left n) h) in
    let here : R Top (slot_seen y) = subst (λ (s : Slot). R Top s) (sym (t.0 refl)) (top.top Top) in
    let G : List program.Slot → Type 0 = λ l. Each R (all l) (all ys) ↔ Each R (all a) (all b) in
    subst G (sym (none_left left n))
    (λ w. k.0 (none R (slot_seen y) (all ys) here w), λ w i. k.1 w (suc i))

below_only : (s : Slot) → IsBelow Top s → s ≡ Top
below_only Top h = refl
below_only (Is w) h = absurd h
below_only (Reference n) h = absurd h

pub below_test : IsLocalTest IsBelow
below_test = record { top = λ s. tt; only = below_only }

agrees_only : (s : Slot) → LocalAgrees Top s → s ≡ Top
agrees_only Top h = refl
agrees_only (Is w) h = absurd h
agrees_only (Reference n) h = absurd h

pub agrees_test : IsLocalTest LocalAgrees
agrees_test = record { top = λ s. tt; only = agrees_only }
