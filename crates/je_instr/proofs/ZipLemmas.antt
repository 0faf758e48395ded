-- A list that is gone through item by item, and what is found for each.
use Rattle.std.proofs.Common.{◌≡◌, List, [], ◌∷◌, ◌++◌, refl, sym, subst, append_assoc}
use Rattle.std.specs.List.{AllZip}
use Rattle.std.proofs.lemmas.List.{append-nil}

module _ {A B : Type 0} (R : A → B → Type 0) where
  -- What was found for the items before the rest goes on to all; and what goes with all, goes with the rest.
  pub record Reached (all rest : List A) (got : List B) : Type 0 where
    pub forth : (more : List B) → AllZip R rest more → AllZip R all (got ++ more)
    pub back : (found : List B) → AllZip R all found → (more : List B) × AllZip R rest more

  pub reached_none : (all : List A) → Reached all all []
  reached_none all = record { forth = λ more h. h; back = λ found h. (found, h) }

  first_of : (x : A) (tail : List A) (more : List B) → AllZip R (x ∷ tail) more → (y : B) × R x y
  first_of x tail [] h = absurd h
  first_of x tail (y ∷ more) h = (y, h.0)

  rest_of : (x : A) (tail : List A) (more : List B) → AllZip R (x ∷ tail) more → (others : List B) × AllZip R tail others
  rest_of x tail [] h = absurd h
  rest_of x tail (y ∷ more) h = (more, h.1)

  pub reached_more : (all tail : List A) (x : A) (got : List B) (y : B) → Reached all (x ∷ tail) got → R x y → Reached all tail (got ++ y ∷ [])
  reached_more all tail x got y h r = record {
    forth = λ more k. subst (AllZip R all) (sym (append_assoc got (y ∷ []) more)) (h.forth (y ∷ more) (r, k));
    back = λ found k. let b = h.back found k in rest_of x tail b.0 b.1;
  }

  pub reached_all : (all : List A) (got : List B) → Reached all [] got → AllZip R all got
  reached_all all got h = subst (AllZip R all) (append-nil got) (h.forth [] tt)

  pub reached_no : (all tail : List A) (x : A) (got found : List B) → Reached all (x ∷ tail) got → ((y : B) → R x y → ⊥) → AllZip R all found → ⊥
  reached_no all tail x got found h none k = let b = h.back found k in let f = first_of x tail b.0 b.1 in none f.0 f.1

  -- what goes with each item is one
  pub zip_once : (xs : List A) (ys zs : List B) → ((x : A) (y z : B) → R x y → R x z → y ≡ z) → AllZip R xs ys → AllZip R xs zs → ys ≡ zs
  zip_once [] [] [] one h k = refl
  zip_once (x ∷ xs) (y ∷ ys) (z ∷ zs) one h k = cc (one x y z h.0 k.0, zip_once xs ys zs one h.1 k.1)
  zip_once [] (y ∷ ys) zs one h k = absurd h
  zip_once (x ∷ xs) [] zs one h k = absurd h
  zip_once [] ys (z ∷ zs) one h k = absurd k
  zip_once (x ∷ xs) ys [] one h k = absurd k

-- what goes with each item for one reason goes with it for another
pub zip_each : {A B : Type 0} (R S : A → B → Type 0) → ((x : A) (y : B) → R x y → S x y)
    → (xs : List A) (ys : List B) → AllZip R xs ys → AllZip S xs ys
zip_each R S each [] [] h = tt
zip_each R S each (x ∷ xs) (y ∷ ys) h = (each x y h.0, zip_each R S each xs ys h.1)
zip_each R S each [] (y ∷ ys) h = absurd h
zip_each R S each (x ∷ xs) [] h = absurd h
