-- An object of the heap that is written, and fields that are not there.
use Rattle.std.proofs.Common.{◌≡◌, ℕ, zero, suc, ◌<◌, List, [], ◌∷◌, Some, refl, sym, ap, ◌∙◌}
use Rattle.std.proofs.Common.{arith, length}
use Rattle.std.specs.Prelude.{slice_set, slice_get, slice_index_or, unwrap_or}
use Rattle.std.specs.FinMap.{empty, get-empty}
use Rattle.je_machine.specs.Value.{Kind, Value, admit, zero_of}
use Rattle.je_machine.specs.Heap.{FieldKey, key_cmp, Object, Instance, Array, value_in, with_field}
use Rattle.je_machine.specs.Heap.{with_element}
use Rattle.je_heap.specs.Object.{field_put, element_put}

module _ {A : Type 0} where
  pub get_there : (xs : List A) (n : ℕ) (d : A) → n < length xs
      → slice_get xs n ≡ Some (slice_index_or xs n d)
  get_there [] n d h = absurd (omega (arith, h))
  get_there (x ∷ xs) zero d h = refl
  get_there (x ∷ xs) (suc n) d h = get_there xs n d (omega (arith, h))

  pub set_same : (xs : List A) (n : ℕ) (d : A) → slice_set xs n (slice_index_or xs n d) ≡ xs
  set_same [] n d = refl
  set_same (x ∷ xs) zero d = refl
  set_same (x ∷ xs) (suc n) d = ap (λ xs. x ∷ xs) (set_same xs n d)

-- ---- an object that is written is the object of its number, written

element_set : (i : ℕ) (v : Value) (n : ℕ) (os : List Object) (o : Object) → slice_set os n o ≡ os
    → slice_set os n (element_put i v o) ≡ with_element i v (Some o) n os
element_set i v n os (Instance class fields) e = e
element_set i v n os (Array type elements) e = refl

pub element_is : (i : ℕ) (v : Value) (n : ℕ) (os : List Object) (d x : Object) → n < length os
    → x ≡ element_put i v (slice_index_or os n d)
    → slice_set os n x ≡ with_element i v (slice_get os n) n os
element_is i v n os d x h e =
    ap (slice_set os n) e ∙ element_set i v n os (slice_index_or os n d) (set_same os n d)
    ∙ ap (λ o. with_element i v o n os) (sym (get_there os n d h))

field_set : (key : FieldKey) (v : Value) (n : ℕ) (os : List Object) (o : Object)
    → slice_set os n o ≡ os → slice_set os n (field_put key v o) ≡ with_field key v (Some o) n os
field_set key v n os (Instance class fields) e = refl
field_set key v n os (Array type elements) e = e

pub field_is : (key : FieldKey) (v : Value) (n : ℕ) (os : List Object) (d x : Object)
    → n < length os → x ≡ field_put key v (slice_index_or os n d)
    → slice_set os n x ≡ with_field key v (slice_get os n) n os
field_is key v n os d x h e =
    ap (slice_set os n) e ∙ field_set key v n os (slice_index_or os n d) (set_same os n d)
    ∙ ap (λ o. with_field key v o n os) (sym (get_there os n d h))

-- ---- no field is read as the zero of its kind

pub unread : (kind : Kind) (key : FieldKey) (v : Value) → v ≡ admit kind (zero_of kind)
    → v ≡ value_in empty kind key
unread kind key v e =
    e ∙ sym (ap (λ o. admit kind (unwrap_or o (zero_of kind))) (get-empty key_cmp key))
