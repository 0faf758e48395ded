-- Methods by their places.
use Rattle.std.proofs.Common.{◌≡◌, ◌≢◌, ℕ, zero, suc, List, [], ◌∷◌, length, Option, Some, None, refl, sym, ap, subst, ◌⊎◌, inl, inr, ⊎_elim, arith}
use Rattle.std.specs.Prelude.{slice_get, IsSomeAnd, IfSome, All}
use Rattle.std.proofs.lemmas.Bool.{cases_lt}
use Rattle.std.proofs.lemmas.Option.{slice_get_within, get_or_from_slice_get}
use Rattle.je_class.specs.Class.{Class, IsNamed, IsMethodAt, changed_at}

pub same_or_other : (a b : ℕ) → (a ≡ b) ⊎ (a ≢ b)
same_or_other a b =
    ⊎_elim
    (λ lt. inr (λ e. omega arith))
    (λ le. ⊎_elim (λ lt. inr (λ e. omega arith)) (λ le'. inl (omega arith)) (cases_lt b a))
    (cases_lt a b)

pub slice_get-changed_at : {A : Type 0} (at : ℕ) (f : A → A) (xs : List A) (x : A) → slice_get xs at ≡ Some x → slice_get (changed_at at f xs) at ≡ Some (f x)
slice_get-changed_at at f [] x e = absurd cc
slice_get-changed_at zero f (y ∷ xs) x e = ap (λ z. Some (f z)) cc
slice_get-changed_at (suc at) f (y ∷ xs) x e = slice_get-changed_at at f xs x e

pub slice_get-changed_at_other : {A : Type 0} (at k : ℕ) (f : A → A) (xs : List A) → k ≢ at → slice_get (changed_at at f xs) k ≡ slice_get xs k
slice_get-changed_at_other at k f [] other = refl
slice_get-changed_at_other zero zero f (x ∷ xs) other = absurd (other refl)
slice_get-changed_at_other zero (suc k) f (x ∷ xs) other = refl
slice_get-changed_at_other (suc at) zero f (x ∷ xs) other = refl
slice_get-changed_at_other (suc at) (suc k) f (x ∷ xs) other = slice_get-changed_at_other at k f xs (λ e. other (ap suc e))

pub length-changed_at : {A : Type 0} (at : ℕ) (f : A → A) (xs : List A) → length (changed_at at f xs) ≡ length xs
length-changed_at at f [] = refl
length-changed_at zero f (x ∷ xs) = refl
length-changed_at (suc at) f (x ∷ xs) = ap suc (length-changed_at at f xs)

pub some_from_some_and : {A : Type 0} (P : A → Type 0) (o : Option A) → IsSomeAnd o P → (x : A) × (o ≡ Some x) × P x
some_from_some_and P None h = absurd h
some_from_some_and P (Some x) h = (x, refl, h)

some-and-not : {A : Type 0} (P : A → Type 0) (o : Option A) → IsSomeAnd o P → IfSome o (λ x. P x → ⊥) → ⊥
some-and-not P None h none = h
some-and-not P (Some x) h none = none h

-- a name and a descriptor have one place
pub one_place : (c : Class) (name descriptor : List ℕ) (a b : ℕ) → IsMethodAt c name descriptor a → IsMethodAt c name descriptor b → a ≡ b
one_place c name descriptor a b at_a at_b =
    let Named = IsNamed c.consts name descriptor in
    ⊎_elim
    (λ lt. absurd (some-and-not Named (slice_get c.methods a) at_a.here (at_b.first a lt)))
    (λ le. ⊎_elim (λ lt. absurd (some-and-not Named (slice_get c.methods b) at_b.here (at_a.first b lt))) (λ le'. omega arith) (cases_lt b a))
    (cases_lt a b)

-- where no method has the name there is no place
pub no_place : (c : Class) (name descriptor : List ℕ) (at : ℕ) → All (λ m. IsNamed c.consts name descriptor m → ⊥) c.methods → IsMethodAt c name descriptor at → ⊥
no_place c name descriptor at none is =
    let found = some_from_some_and (IsNamed c.consts name descriptor) (slice_get c.methods at) is.here in
    let within = slice_get_within c.methods at found.0 found.1 in
    none at found.0 within (subst (IsNamed c.consts name descriptor) (sym (get_or_from_slice_get c.methods at found.0 found.0 found.1)) found.2)

pub one_element : {A : Type 0} (xs : List A) (i : ℕ) (x : A) → length xs ≡ 1 → slice_get xs i ≡ Some x → xs ≡ x ∷ []
one_element [] i x one e = absurd (omega arith)
one_element (y ∷ []) zero x one e = ap (λ z. z ∷ []) cc
one_element (y ∷ []) (suc i) x one e = absurd cc
one_element (y ∷ z ∷ zs) i x one e = absurd (omega arith)
