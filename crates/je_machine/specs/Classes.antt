-- What is known of other classes, and of what class a reference is.
use Rattle.std.specs.Prelude.{ℕ, ◌-◌, List, [], ◌∷◌, length, take, drop, slice_get, Option, Some}
use Rattle.std.specs.Prelude.{None, unwrap_or, option_map, Bool, true, false, ◌||◌, ◌&&◌, codes}
use Rattle.std.specs.Prelude.{if◌then◌else◌, ◌==◌}
use Rattle.std.specs.List.{find, list_any}
use Rattle.je_base.specs.Text.{is_same_text}
use Rattle.je_machine.specs.Content.{Content, Class, Str, MethodHandle}
use Rattle.je_machine.specs.Value.{Value, Null, Obj, Const}
use Rattle.je_machine.specs.Heap.{FieldKey, Heap, Object, Instance, Array, object_of}

-- The pairs of a class and one above it, and the class that holds a field which is named in
-- another. The first entry for a field counts.
pub record Classes : Type 0 where
  pub below : List (List ℕ × List ℕ)
  pub holders : List (FieldKey × List ℕ)

abbrev pub is_same_key : FieldKey → FieldKey → Bool
is_same_key a b = is_same_text a.0 b.0 && is_same_text a.1 b.1 && is_same_text a.2 b.2

-- the class that holds a field: the named one where no entry says another
abbrev pub holder_of : Classes → FieldKey → List ℕ
holder_of classes key =
    unwrap_or (option_map (λ e. e.1) (find (λ e. is_same_key e.0 key) classes.holders)) key.0

abbrev pub class_of_constant : Content → List ℕ
class_of_constant (Class name) = codes "java/lang/Class"
class_of_constant (Str text) = codes "java/lang/String"
class_of_constant (MethodHandle kind tag class name descriptor) =
    codes "java/lang/invoke/MethodHandle"
class_of_constant _ = codes "java/lang/invoke/MethodType"

-- an object that the heap lacks is a java/lang/Object
abbrev pub class_of_object : Option Object → List ℕ
class_of_object (Some (Instance class fields)) = class
class_of_object (Some (Array type elements)) = type
class_of_object None = codes "java/lang/Object"

-- the class of what a reference refers to, and none for null
abbrev pub class_of_reference : Heap → Value → Option (List ℕ)
class_of_reference heap (Obj number) = Some (class_of_object (slice_get heap.objects number))
class_of_reference heap (Const content) = Some (class_of_constant content)
class_of_reference heap _ = None

-- a class is one of another where that is java/lang/Object, where the names are equal, or where the
-- pair is listed
abbrev pub is_subclass : Classes → List ℕ → List ℕ → Bool
is_subclass classes class of =
    is_same_text of (codes "java/lang/Object") || is_same_text class of
    || list_any (λ p. is_same_text p.0 class && is_same_text p.1 of) classes.below

abbrev pub is_some_subclass : Classes → Option (List ℕ) → List ℕ → Bool
is_some_subclass classes (Some class) of = is_subclass classes class of
is_some_subclass classes None of = false

-- what the reference refers to is an instance of the class
abbrev pub is_instance : Classes → Heap → Value → List ℕ → Bool
is_instance classes heap reference of =
    is_some_subclass classes (class_of_reference heap reference) of

-- ---- what an array takes (JVMS 6.5, aastore)

-- the class that a type's text names: `[..` is one itself, `LC;` names C, and a letter names none
abbrev pub class_named : List ℕ → Option (List ℕ)
class_named [] = None
class_named (first ∷ rest) =
    if first == 91 then Some (first ∷ rest)
    else if first == 76 then Some (take (length rest - 1) rest)
    else None

-- the text of an array's type without its `[`
abbrev pub array_component : Option Object → List ℕ
array_component (Some (Array type elements)) = drop 1 type
array_component _ = []

abbrev pub takes_class : Classes → Heap → Option (List ℕ) → Value → Bool
takes_class classes heap None value = true
takes_class classes heap (Some class) Null = true
takes_class classes heap (Some class) value = is_instance classes heap value class

-- the array takes the value: null, or an instance of its component; an array of no references
-- takes all
abbrev pub takes_element : Classes → Heap → Value → Value → Bool
takes_element classes heap target value =
    takes_class classes heap (class_named (array_component (object_of heap target))) value
