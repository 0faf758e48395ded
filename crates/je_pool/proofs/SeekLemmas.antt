-- What is found of a name is what a pool keeps, or the class that was read and is kept.
use Rattle.std.proofs.Common.{◌≡◌, ℕ, zero, suc, ◌<◌, List, [], ◌∷◌, ◌++◌, length, Option, Some, None, Ok, refl, sym, ap, ◌∙◌, ◌⊎◌, inl, inr, subst, arith}
use Rattle.std.specs.Prelude.{IsSomeAnd, slice_get}
use Rattle.je_base.specs.Files.{Contents}
use Rattle.je_class.specs.Class.{Class}
use Rattle.je_world.specs.Question.{Name}
use Rattle.je_pool.specs.declared.id.ClassId.{ClassId}
use Rattle.je_pool.specs.Found.{IsClass, IsNamed, WorldOf}
use Rattle.je_pool.specs.Pool.{PoolState, kept, with_class, PoolTells, FoundBy, SameWorld}
use Rattle.je_pool.specs.Asking.{ReadsTold}
use Rattle.je_pool.specs.Loading.{FindsTold, SameTold}
use Rattle.je_pool.proofs.PoolLemmas.{OneClass, kept_named, last_class, same_with}

some_at : (classes : List Class) (i : ℕ) → i < length classes → slice_get classes i ≡ None → ⊥
some_at [] i lt none = omega (arith, lt)
some_at (c ∷ classes) zero lt none = cc
some_at (c ∷ classes) (suc i) lt none = some_at classes i (omega (arith, lt)) none

-- the class that is kept under a name has it
pub named_at : (name : Name) (classes : List Class) (i : ℕ) → i < length classes → slice_get classes i ≡ kept name classes → IsSomeAnd (slice_get classes i) (IsNamed name)
named_at name classes i lt is = go (slice_get classes i) refl
  where
    go : (o : Option Class) → slice_get classes i ≡ o → IsSomeAnd o (IsNamed name)
    go None none = absurd (some_at classes i lt none)
    go (Some c) here = kept_named name classes c (sym is ∙ here)

-- the class that came stands at its place
pub came_at : (P : Class → Type 0) (pool new : PoolState) (c : Class) (id : ClassId) → new ≡ with_class pool c → id.0 ≡ length pool.classes → P c → IsSomeAnd (slice_get new.classes id.0) P
came_at P pool new c id is at holds =
    let here : slice_get new.classes id.0 ≡ Some c = ap (λ (s : PoolState). slice_get s.classes id.0) is ∙ ap (λ (i : ℕ). slice_get (pool.classes ++ c ∷ []) i) at ∙ last_class pool.classes c in
    let Q : Option Class → Type 0 = λ o. IsSomeAnd o P in subst Q (sym here) holds

pub finds_read : (contents : Option Contents) (pool new : PoolState) (name : Name) (c : Class) (id : ClassId) → kept name pool.classes ≡ None → new ≡ with_class pool c → id.0 ≡ length pool.classes → ReadsTold contents pool.roots name (Ok (Some c)) → FindsTold contents pool name new.classes (Ok (Some id))
finds_read None pool new name c id none is at told = tt
finds_read (Some files) pool new name c id none is at told =
    let P : Option Class → Type 0 = λ o. FoundBy o (WorldOf files pool.roots name) (IsClass c) in
    came_at (λ x. PoolTells pool files name (IsClass x)) pool new c id is at (subst P (sym none) told)

pub same_read : OneClass → (contents : Option Contents) (pool new : PoolState) (name : Name) (c : Class) → kept name pool.classes ≡ None → new ≡ with_class pool c → IsNamed name c → ReadsTold contents pool.roots name (Ok (Some c)) → SameTold contents pool new
same_read one None pool new name c none is named told = tt
same_read one (Some files) pool new name c none is named told =
    let P : PoolState → Type 0 = λ s. SameWorld files pool s in
    subst P (sym is) (same_with one files pool name c none named told)

-- names that were listed change nothing of what is found
pub same_listed : (contents : Option Contents) (old mid new : PoolState) (asked : List Name) → (mid ≡ old) ⊎ (mid ≡ record old { asked = asked }) → SameTold contents mid new → SameTold contents old new
same_listed None old mid new asked is same = tt
same_listed (Some files) old mid new asked (inl is) same =
    let P : PoolState → Type 0 = λ s. SameWorld files s new in subst P is same
same_listed (Some files) old mid new asked (inr is) same =
    let P : PoolState → Type 0 = λ s. SameWorld files s new in subst P is same
