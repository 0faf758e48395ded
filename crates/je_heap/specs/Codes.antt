-- The machine's heap and classes as pairs and lists, so that a struct can have them as its value.
use Rattle.std.specs.Prelude.{◌≡◌, ℕ, ◌⊎◌, List, refl}
use mathlib.Core.Logic.{inl, inr}
use Rattle.std.specs.Coded.{Coded, code_by, coded×, coded⊎, coded_list}
use Rattle.std.specs.FinMap as map
use Rattle.je_machine.specs.Value.{Value}
use Rattle.je_machine.specs.Heap.{FieldKey, Fields, Object, Instance, Array, Heap}
use Rattle.je_machine.specs.Classes.{Classes}
use Rattle.je_heap.specs.ValueCode.{text_code, value_code}

abbrev pub key_code : Coded FieldKey
key_code =
    code_by (List ℕ × (List ℕ × List ℕ)) (coded× text_code (coded× text_code text_code))
    (λ k. (k.0, (k.1, k.2))) (λ p. (p.0, p.1.0, p.1.1)) (λ _. refl)

abbrev pub Pairs : Type 0
Pairs = List (List ℕ × List ℕ) × List (FieldKey × List ℕ)

abbrev pub classes_code : Coded Classes
classes_code =
    code_by Pairs
    (coded× (coded_list (coded× text_code text_code)) (coded_list (coded× key_code text_code)))
    (λ c. (c.below, c.holders)) (λ p. record { below = p.0; holders = p.1 }) (λ _. refl)

-- ---- the heap

abbrev pub fields_code : Coded Fields
fields_code = map.code key_code value_code

abbrev pub ObjectParts : Type 0
ObjectParts = (List ℕ × Fields) ⊎ (List ℕ × List Value)

abbrev pub object_parts : Object → ObjectParts
object_parts (Instance class fields) = inl (class, fields)
object_parts (Array type elements) = inr (type, elements)

abbrev pub object_back : ObjectParts → Object
object_back (inl p) = Instance p.0 p.1
object_back (inr p) = Array p.0 p.1

pub object_again : (x : Object) → object_back (object_parts x) ≡ x
object_again (Instance class fields) = refl
object_again (Array type elements) = refl

abbrev pub object_code : Coded Object
object_code =
    code_by ObjectParts
    (coded⊎ (coded× text_code fields_code) (coded× text_code (coded_list value_code)))
    object_parts object_back object_again

abbrev pub heap_code : Coded Heap
heap_code =
    code_by (List Object × Fields) (coded× (coded_list object_code) fields_code)
    (λ h. (h.objects, h.statics)) (λ p. record { objects = p.0; statics = p.1 }) (λ _. refl)
