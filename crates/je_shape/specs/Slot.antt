-- What a local variable or an item of the stack is known to be, and the order of these (JVMS
-- 4.10.1.2).
use Rattle.std.specs.Prelude.{◌≡◌, ℕ, ◌⊎◌, List, [], ◌∷◌, Bool, true, false, nat_eq}

-- What is like nothing but itself: the primitive types, `this` before a constructor is called on
-- it, and what the `new` at an index made before one is called on it.
pub data Word : Type 0 where
  IntWord : Word
  FloatWord : Word
  LongWord : Word
  DoubleWord : Word
  UninitThis : Word
  Uninit : (new : ℕ) → Word

-- Top cannot be used. A reference is to an object of a class of these names, or null; null alone is
-- the one without names.
pub data Slot : Type 0 where
  Top : Slot
  Is : (word : Word) → Slot
  Reference : (names : List (List ℕ)) → Slot

abbrev pub is_same_word : Word → Word → Bool
is_same_word IntWord IntWord = true
is_same_word FloatWord FloatWord = true
is_same_word LongWord LongWord = true
is_same_word DoubleWord DoubleWord = true
is_same_word UninitThis UninitThis = true
is_same_word (Uninit a) (Uninit b) = nat_eq a b
is_same_word _ _ = false

-- the name is one of these
abbrev pub HasName : List (List ℕ) → List ℕ → Type 0
HasName [] name = ⊥
HasName (first ∷ names) name = (first ≡ name) ⊎ HasName names name

-- each name of the first is one of the second's
abbrev pub HasNames : List (List ℕ) → List (List ℕ) → Type 0
HasNames few many = (name : List ℕ) → HasName few name → HasName many name

-- The second says no more than the first: it is Top, or the same word, or a reference with each
-- name of the first.
abbrev pub IsBelow : Slot → Slot → Type 0
IsBelow s Top = Unit {0}
IsBelow (Is a) (Is b) = a ≡ b
IsBelow (Reference few) (Reference many) = HasNames few many
IsBelow _ _ = ⊥

-- The same of an item of the stack, where only Top is below Top: items that differ have no item
-- above both.
abbrev pub IsItemBelow : Slot → Slot → Type 0
IsItemBelow Top Top = Unit {0}
IsItemBelow (Is a) (Is b) = a ≡ b
IsItemBelow (Reference few) (Reference many) = HasNames few many
IsItemBelow _ _ = ⊥
