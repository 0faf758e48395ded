-- The shape with which a method begins (JVMS 4.10.1.6 and 2.6.1).
use Rattle.std.specs.Prelude.{ℕ, List, [], ◌∷◌, ◌++◌, Bool, true, false, if◌then◌else◌, codes}
use Rattle.std.specs.List.{flat_map}
use Rattle.je_base.specs.Text.{is_same_text}
use Rattle.je_desc.specs.Descriptor.{MethodTypes}
use Rattle.je_shape.specs.Slot.{Word, LongWord, DoubleWord, UninitThis, Slot, Top, Is, Reference}
use Rattle.je_shape.specs.Shape.{Shape}
use Rattle.je_shape.specs.Flow.{slot_of_type, shape_of}

-- the places of a local variable: a long and a double take two, of which the second is Top
abbrev pub places_of_word : Word → List Slot
places_of_word LongWord = Is LongWord ∷ Top ∷ []
places_of_word DoubleWord = Is DoubleWord ∷ Top ∷ []
places_of_word word = Is word ∷ []

abbrev pub places_of : Slot → List Slot
places_of (Is word) = places_of_word word
places_of s = s ∷ []

-- `this` of a constructor, which in java/lang/Object alone calls no other one
abbrev pub this_of_constructor : List ℕ → Slot
this_of_constructor own =
    if is_same_text own (codes "java/lang/Object") then Reference (own ∷ []) else Is UninitThis

-- `this`, by whether the method is static, and whether it is a constructor
abbrev pub this_of : List ℕ → Bool → Bool → List Slot
this_of own true is_init = []
this_of own false true = this_of_constructor own ∷ []
this_of own false false = Reference (own ∷ []) ∷ []

-- of a method of the class, with these types: `this`, and the parameters behind it
abbrev pub entry_of : List ℕ → Bool → Bool → MethodTypes → Shape
entry_of own is_static is_init types =
    shape_of []
    (this_of own is_static is_init ++ flat_map (λ t. places_of (slot_of_type t)) types.params)
