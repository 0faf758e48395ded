-- Two lists of slots that are joined from the front.
use Rattle.std.proofs.Common.{length, arith, ◌≡◌, ◌∙◌, ◌++◌, List, [], ◌∷◌, Some, None, map, ap, sym, subst, append_assoc, refl}
use Rattle.std.proofs.lemmas.List.{map-append, append-nil}
use Rattle.je_shape.specs.declared.slot.Slot.{Slot}
use Rattle.je_shape.specs.Slot as known
use Rattle.je_shape.specs.Views.{slot_seen}
use Rattle.je_shape.specs.Joined.{IsSlotJoin, IsItemJoin, IsLocalsJoin, IsStackJoin}
use Rattle.je_shape.proofs.JoinLemmas.{locals_cons, locals_end, locals_stop, cons_join, no_first, no_rest, empty_join, shorter, longer}

abbrev pub all : List Slot → List known.Slot
all slots = map slot_seen slots

-- what is left of both goes on to the whole
abbrev pub GoesLocals : List Slot → List Slot → List Slot → List Slot → List Slot → Type 0
GoesLocals a b joined left right =
    (rest : List known.Slot) → IsLocalsJoin (all left) (all right) rest → IsLocalsJoin (all a) (all b) (all joined ++ rest)

pub record GoesStack (a b joined left right : List Slot) : Type 0 where
  pub some : (rest : List known.Slot) → IsStackJoin (all left) (all right) (Some rest) → IsStackJoin (all a) (all b) (Some (all joined ++ rest))
  pub none : IsStackJoin (all left) (all right) None → IsStackJoin (all a) (all b) None

pushed : (joined more : List Slot) (z : Slot) (rest : List known.Slot) → more ≡ joined ++ z ∷ [] → all joined ++ slot_seen z ∷ rest ≡ all more ++ rest
pushed joined more z rest e =
    sym (ap (λ (l : List Slot). all l ++ rest) e
    ∙ ap (λ (l : List known.Slot). l ++ rest) (map-append slot_seen joined (z ∷ []))
    ∙ append_assoc (all joined) (slot_seen z ∷ []) rest)

pub locals_step : (a b joined more left right xs ys : List Slot) (x y z : Slot) → left ≡ x ∷ xs → right ≡ y ∷ ys → more ≡ joined ++ z ∷ []
    → IsSlotJoin (slot_seen x) (slot_seen y) (slot_seen z) → GoesLocals a b joined left right → GoesLocals a b more xs ys
locals_step a b joined more left right xs ys x y z e f g j goes rest k =
    let P : List known.Slot → Type 0 = λ l. IsLocalsJoin (all a) (all b) l in
    let L : List Slot → Type 0 = λ l. IsLocalsJoin (all l) (all right) (slot_seen z ∷ rest) in
    let R : List Slot → Type 0 = λ r. IsLocalsJoin (all (x ∷ xs)) (all r) (slot_seen z ∷ rest) in
    subst P (pushed joined more z rest g)
    (goes (slot_seen z ∷ rest)
    (subst L (sym e) (subst R (sym f) (locals_cons (slot_seen x) (slot_seen y) (slot_seen z) (all xs) (all ys) rest j k))))

pub locals_ended : (a b joined left right : List Slot) → left ≡ [] → GoesLocals a b joined left right → IsLocalsJoin (all a) (all b) (all joined)
locals_ended a b joined left right e goes =
    let P : List known.Slot → Type 0 = λ l. IsLocalsJoin (all a) (all b) l in
    let L : List Slot → Type 0 = λ l. IsLocalsJoin (all l) (all right) [] in
    subst P (append-nil (all joined)) (goes [] (subst L (sym e) (locals_end (all right))))

pub locals_stopped : (a b joined left right : List Slot) → right ≡ [] → GoesLocals a b joined left right → IsLocalsJoin (all a) (all b) (all joined)
locals_stopped a b joined left right e goes =
    let P : List known.Slot → Type 0 = λ l. IsLocalsJoin (all a) (all b) l in
    let R : List Slot → Type 0 = λ r. IsLocalsJoin (all left) (all r) [] in
    subst P (append-nil (all joined)) (goes [] (subst R (sym e) (locals_stop (all left))))

pub stack_step : (a b joined more left right xs ys : List Slot) (x y z : Slot) → left ≡ x ∷ xs → right ≡ y ∷ ys → more ≡ joined ++ z ∷ []
    → IsItemJoin (slot_seen x) (slot_seen y) (Some (slot_seen z)) → GoesStack a b joined left right → GoesStack a b more xs ys
stack_step a b joined more left right xs ys x y z e f g j goes =
    record {
      some = λ rest k.
          let P : List known.Slot → Type 0 = λ l. IsStackJoin (all a) (all b) (Some l) in
          let L : List Slot → Type 0 = λ l. IsStackJoin (all l) (all right) (Some (slot_seen z ∷ rest)) in
          let R : List Slot → Type 0 = λ r. IsStackJoin (all (x ∷ xs)) (all r) (Some (slot_seen z ∷ rest)) in
          subst P (pushed joined more z rest g)
          (goes.some (slot_seen z ∷ rest)
          (subst L (sym e) (subst R (sym f) (cons_join (slot_seen x) (slot_seen y) (slot_seen z) (all xs) (all ys) rest j k))));
      none = λ k.
          let L : List Slot → Type 0 = λ l. IsStackJoin (all l) (all right) None in
          let R : List Slot → Type 0 = λ r. IsStackJoin (all (x ∷ xs)) (all r) None in
          goes.none (subst L (sym e) (subst R (sym f) (no_rest (slot_seen x) (slot_seen y) (all xs) (all ys) k)));
    }

pub stack_differs : (a b joined left right xs ys : List Slot) (x y : Slot) → left ≡ x ∷ xs → right ≡ y ∷ ys
    → IsItemJoin (slot_seen x) (slot_seen y) None → GoesStack a b joined left right → IsStackJoin (all a) (all b) None
stack_differs a b joined left right xs ys x y e f j goes =
    let L : List Slot → Type 0 = λ l. IsStackJoin (all l) (all right) None in
    let R : List Slot → Type 0 = λ r. IsStackJoin (all (x ∷ xs)) (all r) None in
    goes.none (subst L (sym e) (subst R (sym f) (no_first (slot_seen x) (slot_seen y) (all xs) (all ys) j)))

pub stack_longer : (a b joined left right xs : List Slot) (x : Slot) → left ≡ x ∷ xs → right ≡ [] → GoesStack a b joined left right → IsStackJoin (all a) (all b) None
stack_longer a b joined left right xs x e f goes =
    let L : List Slot → Type 0 = λ l. IsStackJoin (all l) (all right) None in
    let R : List Slot → Type 0 = λ r. IsStackJoin (all (x ∷ xs)) (all r) None in
    goes.none (subst L (sym e) (subst R (sym f) (longer (slot_seen x) (all xs))))

pub stack_shorter : (a b joined left right ys : List Slot) (y : Slot) → left ≡ [] → right ≡ y ∷ ys → GoesStack a b joined left right → IsStackJoin (all a) (all b) None
stack_shorter a b joined left right ys y e f goes =
    let L : List Slot → Type 0 = λ l. IsStackJoin (all l) (all right) None in
    let R : List Slot → Type 0 = λ r. IsStackJoin [] (all r) None in
    goes.none (subst L (sym e) (subst R (sym f) (shorter (slot_seen y) (all ys))))

pub stack_ended : (a b joined left right : List Slot) → left ≡ [] → right ≡ [] → GoesStack a b joined left right → IsStackJoin (all a) (all b) (Some (all joined))
stack_ended a b joined left right e f goes =
    let P : List known.Slot → Type 0 = λ l. IsStackJoin (all a) (all b) (Some l) in
    let L : List Slot → Type 0 = λ l. IsStackJoin (all l) (all right) (Some []) in
    let R : List Slot → Type 0 = λ r. IsStackJoin [] (all r) (Some []) in
    subst P (append-nil (all joined)) (goes.some [] (subst L (sym e) (subst R (sym f) empty_join)))

pub stack_begins : (a b joined : List Slot) → joined ≡ [] → GoesStack a b joined a b
stack_begins a b joined e =
    record {
      some = λ rest k.
          let P : List Slot → Type 0 = λ j. IsStackJoin (all a) (all b) (Some (all j ++ rest)) in
          subst P (sym e) k;
      none = λ k. k;
    }

pub locals_begin : (a b joined : List Slot) → joined ≡ [] → GoesLocals a b joined a b
locals_begin a b joined e rest k =
    let P : List Slot → Type 0 = λ j. IsLocalsJoin (all a) (all b) (all j ++ rest) in
    subst P (sym e) k

pub none_left : (xs : List Slot) → length xs ≡ 0 → xs ≡ []
none_left [] e = refl
none_left (x ∷ xs) e = absurd (omega (arith, e))
