-- Objects, static fields, and the total functions that read and write them (JVMS 2.5.3).
use Rattle.std.specs.Prelude.{ℕ, zero, suc, ℤ, pos, negsuc, ◌^◌, List, [], ◌∷◌, ◌++◌, length}
use Rattle.std.specs.Prelude.{replicate, slice_get, slice_set, Option, Some, None, unwrap_or}
use Rattle.std.specs.Prelude.{option_map, codes, if◌then◌else◌}
use Rattle.std.specs.declared.cmp.Ordering.{Ordering}
use Rattle.std.specs.Ordering.{nat_cmp, ordering_then}
use Rattle.std.specs.Int.{w8, w16, int_wrap, int_rem_euclid}
use Rattle.std.specs.Cmp.Lexicographic.{slice_cmp}
use Rattle.std.specs.FinMap.{FinMap, empty, get, insert}
use Rattle.je_base.specs.Text.{is_same_text}
use Rattle.je_desc.specs.FieldType.{FieldType, descriptor}
use Rattle.je_desc.specs.FieldType as types
use Rattle.je_machine.specs.Value.{Kind, Value, Int, Null, Obj, kind_of, zero_of, admit}

-- a field by the class that holds it, its name and its descriptor
abbrev pub FieldKey : Type 0
FieldKey = List ℕ × List ℕ × List ℕ

-- by class, then name, then descriptor
abbrev pub key_cmp : FieldKey → FieldKey → Ordering
key_cmp a b =
    ordering_then (slice_cmp nat_cmp a.0 b.0)
    (ordering_then (slice_cmp nat_cmp a.1 b.1) (slice_cmp nat_cmp a.2 b.2))

abbrev pub Fields : Type 0
Fields = FinMap key_cmp Value

-- an object of a class with its fields, or an array with its type, as `[I`, and its elements
pub data Object : Type 0 where
  Instance : (class : List ℕ) (fields : Fields) → Object
  Array : (type : List ℕ) (elements : List Value) → Object

-- the objects by their numbers, and the static fields
pub record Heap : Type 0 where
  pub objects : List Object
  pub statics : Fields

-- the object of a reference, if the heap has it
abbrev pub object_of : Heap → Value → Option Object
object_of heap (Obj number) = slice_get heap.objects number
object_of heap _ = None

-- a new object takes the next number
abbrev pub allocate : Object → Heap → Heap
allocate object heap = record heap { objects = heap.objects ++ object ∷ [] }

abbrev pub next_object : Heap → Value
next_object heap = Obj (length heap.objects)

-- an object of the class, whose fields are all zero
abbrev pub new_instance : List ℕ → Object
new_instance class = Instance class empty

-- ---- fields: what the map lacks reads as zero

abbrev pub value_in : Fields → Kind → FieldKey → Value
value_in fields kind key = admit kind (unwrap_or (get fields key) (zero_of kind))

abbrev pub read_static : Heap → Kind → FieldKey → Value
read_static heap kind key = value_in heap.statics kind key

abbrev pub write_static : FieldKey → Value → Heap → Heap
write_static key value heap = record heap { statics = insert heap.statics key value }

-- an array, and what the heap lacks, read as zeros and take no writes
abbrev pub fields_of : Option Object → Fields
fields_of (Some (Instance class fields)) = fields
fields_of _ = empty

abbrev pub read_field : Heap → Kind → FieldKey → Value → Value
read_field heap kind key target = value_in (fields_of (object_of heap target)) kind key

abbrev pub with_field : FieldKey → Value → Option Object → ℕ → List Object → List Object
with_field key value (Some (Instance class fields)) number objects =
    slice_set objects number (Instance class (insert fields key value))
with_field key value _ number objects = objects

abbrev pub write_field : FieldKey → Value → Value → Heap → Heap
write_field key value (Obj number) heap =
    record heap {
      objects =
          with_field key value (slice_get heap.objects number) number heap.objects;
    }
write_field key value _ heap = heap

-- ---- elements: what is no array has the length 0

abbrev pub elements_of : Option Object → List Value
elements_of (Some (Array type elements)) = elements
elements_of _ = []

abbrev pub array_length : Heap → Value → ℕ
array_length heap target = length (elements_of (object_of heap target))

-- none where the index is out of bounds
abbrev pub element_at : List Value → ℤ → Option Value
element_at elements (pos i) = slice_get elements i
element_at elements (negsuc i) = None

abbrev pub read_element : Heap → Kind → Value → ℤ → Option Value
read_element heap kind target i =
    option_map (admit kind) (element_at (elements_of (object_of heap target)) i)

-- An Int as an element of an array keeps it, by the array's type (JVMS 6.5, bastore, castore and
-- sastore): a boolean is the lowest bit, a byte has 8 bits, a char and a short have 16.
abbrev pub narrowed_int : List ℕ → ℤ → ℤ
narrowed_int type n =
    if is_same_text type (codes "[Z") then int_rem_euclid n (pos 2) else
    if is_same_text type (codes "[B") then int_wrap w8 n else
    if is_same_text type (codes "[C") then int_rem_euclid n (pos (2 ^ 16)) else
    if is_same_text type (codes "[S") then int_wrap w16 n else n

abbrev pub narrowed : List ℕ → Value → Value
narrowed type (Int n) = Int (narrowed_int type n)
narrowed type value = value

abbrev pub with_element : ℕ → Value → Option Object → ℕ → List Object → List Object
with_element i value (Some (Array type elements)) number objects =
    slice_set objects number (Array type (slice_set elements i (narrowed type value)))
with_element i value _ number objects = objects

abbrev pub write_element : ℕ → Value → Value → Heap → Heap
write_element i value (Obj number) heap =
    record heap {
      objects =
          with_element i value (slice_get heap.objects number) number heap.objects;
    }
write_element i value _ heap = heap

-- ---- new arrays (JVMS 6.5, newarray, anewarray and multianewarray)

-- the type of an array's elements
abbrev pub component_of : FieldType → FieldType
component_of (types.Array component) = component
component_of type = type

-- an array of the type with so many elements, all zero
abbrev pub new_array : FieldType → ℕ → Object
new_array type size =
    Array (descriptor type) (replicate size (zero_of (kind_of (component_of type))))

-- what is made, and the heap after it
abbrev pub Making : Type 0 → Type 0
Making A = Heap → A × Heap

abbrev pub make_object : Object → Making Value
make_object object heap = (next_object heap, allocate object heap)

-- so many, one after the other
abbrev pub make_many : Making Value → ℕ → Making (List Value)
make_many make zero heap = ([], heap)
make_many make (suc count) heap =
    let first = make heap in
    let rest = make_many make count first.1 in
    (first.0 ∷ rest.0, rest.1)

-- An array of the type, by its sizes from the outermost dimension. An array of arrays is made
-- behind its elements.
abbrev pub make_array : FieldType → List ℕ → Making Value
make_array type [] heap = (Null, heap)
make_array type (size ∷ []) heap = make_object (new_array type size) heap
make_array type (size ∷ next ∷ sizes) heap =
    let made = make_many (make_array (component_of type) (next ∷ sizes)) size heap in
    make_object (Array (descriptor type) made.0) made.1
