-- Field descriptors, from the left.
use Rattle.std.proofs.Common.{◌≡◌, ◌≢◌, ℕ, ◌+◌, ◌≤◌, ◌<◌, ◌⊎◌, ◌↔◌, inl, inr, length, List, [], ◌∷◌, ◌++◌, sym, ap, ◌∙◌, arith, append_assoc}
use Rattle.je_desc.specs.FieldType.{BaseType, Byte, Char, Double, Float, Int, Long, Short, Boolean, FieldType, Base, Object, Array, HasName, dimensions, letter, descriptor}
use Rattle.je_desc.specs.Front.{IsBaseLetter, NameFront, FieldFront}

-- the letters, one after the other
abbrev pub IsLetter : ℕ → Type 0
IsLetter b = (b ≡ 66) ⊎ ((b ≡ 67) ⊎ ((b ≡ 68) ⊎ ((b ≡ 70) ⊎ ((b ≡ 73) ⊎ ((b ≡ 74) ⊎ ((b ≡ 83) ⊎ (b ≡ 90)))))))

pub letter_among : (b : ℕ) → IsLetter b → IsBaseLetter b
letter_among b (inl e) = (Byte, e)
letter_among b (inr (inl e)) = (Char, e)
letter_among b (inr (inr (inl e))) = (Double, e)
letter_among b (inr (inr (inr (inl e)))) = (Float, e)
letter_among b (inr (inr (inr (inr (inl e))))) = (Int, e)
letter_among b (inr (inr (inr (inr (inr (inl e)))))) = (Long, e)
letter_among b (inr (inr (inr (inr (inr (inr (inl e))))))) = (Short, e)
letter_among b (inr (inr (inr (inr (inr (inr (inr e))))))) = (Boolean, e)

-- no letter is `)`, `L` or `[`
pub letter_apart : (base : BaseType) → (letter base ≢ 41) × (letter base ≢ 76) × (letter base ≢ 91)
letter_apart Byte = (λ e. omega arith, λ e. omega arith, λ e. omega arith)
letter_apart Char = (λ e. omega arith, λ e. omega arith, λ e. omega arith)
letter_apart Double = (λ e. omega arith, λ e. omega arith, λ e. omega arith)
letter_apart Float = (λ e. omega arith, λ e. omega arith, λ e. omega arith)
letter_apart Int = (λ e. omega arith, λ e. omega arith, λ e. omega arith)
letter_apart Long = (λ e. omega arith, λ e. omega arith, λ e. omega arith)
letter_apart Short = (λ e. omega arith, λ e. omega arith, λ e. omega arith)
letter_apart Boolean = (λ e. omega arith, λ e. omega arith, λ e. omega arith)

-- a letter begins the descriptor of its base type alone
base_only : (type : FieldType) (first : ℕ) (rest x : List ℕ) → IsBaseLetter first → dimensions type + 255 ≤ 255 → first ∷ rest ≡ descriptor type ++ x → rest ≡ x
base_only (Base b) first rest x base within whole = cc
base_only (Object name) first rest x base within whole =
    let e : first ≡ 76 = cc in absurd ((letter_apart base.0).1 (sym base.1 ∙ e))
base_only (Array component) first rest x base within whole = absurd (omega arith)

object_only : (type : FieldType) (rest x : List ℕ) → HasName type → dimensions type + 255 ≤ 255 → 76 ∷ rest ≡ descriptor type ++ x → NameFront rest x
object_only (Base b) rest x named within whole =
    let e : 76 ≡ letter b = cc in absurd ((letter_apart b).1 (sym e))
object_only (Object name) rest x named within whole =
    let e : rest ≡ (name ++ 59 ∷ []) ++ x = cc in record { name = name; is_name = named; whole = e ∙ append_assoc name (59 ∷ []) x }
object_only (Array component) rest x named within whole = absurd (omega arith)

other_only : (type : FieldType) (first : ℕ) (rest x : List ℕ) → (IsBaseLetter first → ⊥) → first ≢ 76 → dimensions type + 255 ≤ 255 → first ∷ rest ≡ descriptor type ++ x → ⊥
other_only (Base b) first rest x base object within whole =
    let e : first ≡ letter b = cc in base (b, e)
other_only (Object name) first rest x base object within whole =
    let e : first ≡ 76 = cc in object e
other_only (Array component) first rest x base object within whole = omega arith

array_only : (type : FieldType) (read : ℕ) (rest x : List ℕ) → HasName type → dimensions type + read ≤ 255 → 91 ∷ rest ≡ descriptor type ++ x → FieldFront (read + 1) rest x
array_only (Base b) read rest x named within whole =
    let e : 91 ≡ letter b = cc in absurd ((letter_apart b).2 (sym e))
array_only (Object name) read rest x named within whole =
    let e : ◌≡◌ {A = ℕ} 91 76 = cc in absurd (omega arith)
array_only (Array component) read rest x named within whole =
    record { type = component; named = named; within = omega arith; whole = cc }

element_only : (type : FieldType) (read first : ℕ) (rest x : List ℕ) → HasName type → first ≢ 91 → first ∷ rest ≡ descriptor type ++ x → FieldFront 255 (first ∷ rest) x
element_only (Base b) read first rest x named array whole =
    record { type = Base b; named = named; within = omega arith; whole = whole }
element_only (Object name) read first rest x named array whole =
    record { type = Object name; named = named; within = omega arith; whole = whole }
element_only (Array component) read first rest x named array whole =
    let e : first ≡ 91 = cc in absurd (array e)

pub none_only : (type : FieldType) (x : List ℕ) → [] ≡ descriptor type ++ x → ⊥
none_only (Base b) x whole = cc
none_only (Object name) x whole = cc
none_only (Array component) x whole = cc

-- no field descriptor stands at the front of nothing
pub no_front : (read : ℕ) (bytes x : List ℕ) → length bytes < 1 → FieldFront read bytes x → ⊥
no_front read [] x none front = none_only front.type x front.whole
no_front read (b ∷ bytes) x none front = omega arith

module _ (bytes : List ℕ) (first : ℕ) (rest : List ℕ) (whole : bytes ≡ first ∷ rest) where
  pub base_front : IsBaseLetter first → FieldFront 255 bytes rest
  base_front base =
      record { type = Base base.0; named = tt; within = omega arith; whole = whole ∙ ap (λ b. b ∷ rest) base.1 }

  pub base_leaves : (x : List ℕ) → IsBaseLetter first → FieldFront 255 bytes x → rest ≡ x
  base_leaves x base front = base_only front.type first rest x base front.within (sym whole ∙ front.whole)

  pub object_front : (x : List ℕ) → first ≡ 76 → NameFront rest x → FieldFront 255 bytes x
  object_front x object front =
      let spelled : first ∷ rest ≡ 76 ∷ ((front.name ++ 59 ∷ []) ++ x) =
      rw object (ap (λ s. 76 ∷ s) (front.whole ∙ sym (append_assoc front.name (59 ∷ []) x))) in
      record { type = Object front.name; named = front.is_name; within = omega arith; whole = whole ∙ spelled }

  pub object_leaves : (x : List ℕ) → first ≡ 76 → FieldFront 255 bytes x → NameFront rest x
  object_leaves x object front =
      let spelled : 76 ∷ rest ≡ descriptor front.type ++ x = ap (λ b. b ∷ rest) (sym object) ∙ sym whole ∙ front.whole in
      object_only front.type rest x front.named front.within spelled

  pub other_front : (x : List ℕ) → (IsBaseLetter first → ⊥) → first ≢ 76 → FieldFront 255 bytes x → ⊥
  other_front x base object front = other_only front.type first rest x base object front.within (sym whole ∙ front.whole)

  -- after one `[` more a dimension less is left
  pub array_front : (read : ℕ) (x : List ℕ) → first ≡ 91 → FieldFront (read + 1) rest x ↔ FieldFront read bytes x
  array_front read x array = (
    λ front.
        let spelled : first ∷ rest ≡ 91 ∷ (descriptor front.type ++ x) = rw array (ap (λ s. 91 ∷ s) front.whole) in
        record { type = Array front.type; named = front.named; within = omega arith; whole = whole ∙ spelled },
    λ front.
        let spelled : 91 ∷ rest ≡ descriptor front.type ++ x = ap (λ b. b ∷ rest) (sym array) ∙ sym whole ∙ front.whole in
        array_only front.type read rest x front.named front.within spelled,
  )

  -- what begins with no `[` is of a type that is no array
  pub element_leaves : (read : ℕ) (x : List ℕ) → first ≢ 91 → FieldFront read bytes x → FieldFront 255 bytes x
  element_leaves read x array front =
      rw whole (element_only front.type read first rest x front.named array (sym whole ∙ front.whole))

-- a type that is no array has room for every `[` before it
pub element_front : (read : ℕ) (bytes x : List ℕ) → read ≤ 255 → FieldFront 255 bytes x → FieldFront read bytes x
element_front read bytes x most front =
    record { type = front.type; named = front.named; within = omega arith; whole = front.whole }
