-- A type at the front of bytes, by their first byte.
use Rattle.std.proofs.Common.{◌≡◌, ◌≢◌, ℕ, List, [], ◌∷◌, ◌++◌, Option, Some, None, length, refl, sym, ap, ◌∙◌, arith, append_assoc}
use Rattle.std.specs.Prelude.{MatchOption}
use Rattle.std.specs.Option.{option_map}
use Rattle.je_desc.specs.declared.types.JType.{JType}
use Rattle.je_desc.specs.Names.{IsClassName}
use Rattle.je_desc.specs.FieldType.{BaseType, Byte, Char, Double, Float, Int, Long, Short, Boolean}
use Rattle.je_desc.specs.FieldType.{FieldType, Base, Object, Array, HasName, dimensions, letter, descriptor}
use Rattle.je_desc.specs.Types.{field_type_of}
use Rattle.je_type.specs.Reading.{base_at, IsFront}

base_again : (base : BaseType) → base_at (letter base) ≡ Some base
base_again Byte = refl
base_again Char = refl
base_again Double = refl
base_again Float = refl
base_again Int = refl
base_again Long = refl
base_again Short = refl
base_again Boolean = refl

-- no letter is `)`, `L`, `[` or `V`
pub letter_apart : (base : BaseType) → (letter base ≢ 41) × (letter base ≢ 76) × (letter base ≢ 91) × (letter base ≢ 86)
letter_apart Byte = (λ e. omega arith, λ e. omega arith, λ e. omega arith, λ e. omega arith)
letter_apart Char = (λ e. omega arith, λ e. omega arith, λ e. omega arith, λ e. omega arith)
letter_apart Double = (λ e. omega arith, λ e. omega arith, λ e. omega arith, λ e. omega arith)
letter_apart Float = (λ e. omega arith, λ e. omega arith, λ e. omega arith, λ e. omega arith)
letter_apart Int = (λ e. omega arith, λ e. omega arith, λ e. omega arith, λ e. omega arith)
letter_apart Long = (λ e. omega arith, λ e. omega arith, λ e. omega arith, λ e. omega arith)
letter_apart Short = (λ e. omega arith, λ e. omega arith, λ e. omega arith, λ e. omega arith)
letter_apart Boolean = (λ e. omega arith, λ e. omega arith, λ e. omega arith, λ e. omega arith)

-- ---- what is no array

found_base : (found : Option JType) (base : BaseType) → option_map field_type_of found ≡ Some (Base base)
    → MatchOption found ⊥ (λ u. field_type_of u ≡ Base base)
found_base None base e = cc
found_base (Some u) base e = cc

-- a letter is the front of its base type alone
pub base_front : (t : FieldType) (first : ℕ) (rest x : List ℕ) (found : Option JType)
    → option_map field_type_of found ≡ option_map (λ base. Base base) (base_at first)
    → dimensions t ≡ 0 → first ≢ 76 → first ∷ rest ≡ descriptor t ++ x
    → MatchOption found ⊥ (λ u. field_type_of u ≡ t) × (rest ≡ x)
base_front (Base base) first rest x found read flat other whole =
    let e : first ≡ letter base = cc in
    let at : option_map field_type_of found ≡ Some (Base base) =
    read ∙ ap (λ n. option_map (λ base. Base base) (base_at n)) e ∙ ap (option_map (λ base. Base base)) (base_again base) in
    (found_base found base at, cc)
base_front (Object name) first rest x found read flat other whole =
    let e : first ≡ 76 = cc in absurd (other e)
base_front (Array component) first rest x found read flat other whole = absurd (omega arith)

-- the name of a class stands behind `L`
pub record IsClassFront (t : FieldType) (rest x : List ℕ) : Type 0 where
  pub name : List ℕ
  pub is : t ≡ Object name
  pub named : IsClassName name
  pub whole : rest ≡ name ++ 59 ∷ x

pub class_front : (t : FieldType) (first : ℕ) (rest x : List ℕ) → HasName t → dimensions t ≡ 0 → first ≡ 76
    → first ∷ rest ≡ descriptor t ++ x → IsClassFront t rest x
class_front (Base base) first rest x named flat is whole =
    let e : first ≡ letter base = cc in absurd ((letter_apart base).1 (sym e ∙ is))
class_front (Object name) first rest x named flat is whole =
    let e : rest ≡ (name ++ 59 ∷ []) ++ x = cc in
    record { name = name; is = refl; named = named; whole = e ∙ append_assoc name (59 ∷ []) x }
class_front (Array component) first rest x named flat is whole = absurd (omega arith)

-- ---- any type

no_type : (t : FieldType) (x : List ℕ) → [] ≡ descriptor t ++ x → ⊥
no_type (Base base) x whole = cc
no_type (Object name) x whole = cc
no_type (Array component) x whole = cc

pub no_front : (t : FieldType) (x bytes : List ℕ) → length bytes ≡ 0 → IsFront t x bytes → ⊥
no_front t x [] none front = no_type t x front.whole
no_front t x (b ∷ bytes) none front = omega arith

flat_type : (t : FieldType) (first : ℕ) (rest x : List ℕ) → first ≢ 91 → first ∷ rest ≡ descriptor t ++ x → dimensions t ≡ 0
flat_type (Base base) first rest x other whole = refl
flat_type (Object name) first rest x other whole = refl
flat_type (Array component) first rest x other whole = let e : first ≡ 91 = cc in absurd (other e)

-- a component stands behind `[`
pub record IsArrayFront (t : FieldType) (rest x : List ℕ) : Type 0 where
  pub component : FieldType
  pub is : t ≡ Array component
  pub front : IsFront component x rest

array_type : (t : FieldType) (first : ℕ) (rest x : List ℕ) → HasName t → first ≡ 91 → first ∷ rest ≡ descriptor t ++ x → IsArrayFront t rest x
array_type (Base base) first rest x named is whole =
    let e : first ≡ letter base = cc in absurd ((letter_apart base).2 (sym e ∙ is))
array_type (Object name) first rest x named is whole =
    let e : first ≡ 76 = cc in absurd (omega arith)
array_type (Array component) first rest x named is whole =
    record { component = component; is = refl; front = record { named = named; whole = cc } }

module _ (t : FieldType) (x bytes : List ℕ) (first : ℕ) (rest : List ℕ) (split : bytes ≡ first ∷ rest) (front : IsFront t x bytes) where
  pub front_whole : first ∷ rest ≡ descriptor t ++ x
  front_whole = sym split ∙ front.whole

  pub flat_front : first ≢ 91 → dimensions t ≡ 0
  flat_front other = flat_type t first rest x other front_whole

  pub array_front : first ≡ 91 → IsArrayFront t rest x
  array_front is = array_type t first rest x front.named is front_whole
