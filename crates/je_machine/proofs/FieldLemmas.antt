-- Reading a field after a write.
use Rattle.std.proofs.Common.{◌≡◌, ◌≢◌, ℕ, zero, suc, List, [], ◌∷◌, Option, Some, None, Bool, true, false, cond, refl, sym, ap, ◌∙◌}
use Rattle.std.specs.Prelude.{slice_get, slice_set, unwrap_or}
use Rattle.std.specs.declared.cmp.Ordering.{Ordering}
use Rattle.std.specs.declared.cmp.Ordering.TheVariants.{Less, Equal, Greater}
use Rattle.std.specs.Ordering.{nat_cmp, eq_by_cmp, is_eq, ordering_then, on, then_cmp}
use Rattle.std.specs.Cmp.{IsTotalOrder}
use Rattle.std.specs.Cmp.Lexicographic.{slice_cmp, nat_list_cmp_total, texts_ties}
use Rattle.std.specs.FinMap.{get, insert, get-insert}
use Rattle.std.proofs.lemmas.Cmp.{on_total, then_total}
use Rattle.std.proofs.lemmas.Slice.Eq.{bytes_eq-Decides}
use Rattle.je_machine.specs.Value.{Kind, Value, Obj, admit, zero_of}
use Rattle.je_machine.specs.Heap.{FieldKey, key_cmp, Fields, Object, Instance, Array, Heap, object_of, value_in, fields_of, with_field, read_static, write_static, read_field, write_field}

pub key_total : IsTotalOrder key_cmp
key_total =
    then_total {R = on (λ (k : FieldKey). k.0) (slice_cmp nat_cmp)} {S = then_cmp (on (λ (k : FieldKey). k.1) (slice_cmp nat_cmp)) (on (λ (k : FieldKey). k.2) (slice_cmp nat_cmp))}
    (on_total (λ (k : FieldKey). k.0) nat_list_cmp_total)
    (then_total {R = on (λ (k : FieldKey). k.1) (slice_cmp nat_cmp)} {S = on (λ (k : FieldKey). k.2) (slice_cmp nat_cmp)}
    (on_total (λ (k : FieldKey). k.1) nat_list_cmp_total) (on_total (λ (k : FieldKey). k.2) nat_list_cmp_total))

-- ---- keys that compare equal are equal

both_equal : (o p : Ordering) → is_eq (ordering_then o p) ≡ true → (is_eq o ≡ true) × (is_eq p ≡ true)
both_equal Less p e = absurd cc
both_equal Equal p e = (refl, e)
both_equal Greater p e = absurd cc

then_equal : (o p : Ordering) → is_eq o ≡ true → is_eq p ≡ true → is_eq (ordering_then o p) ≡ true
then_equal Less p e f = absurd cc
then_equal Equal p e f = f
then_equal Greater p e f = absurd cc

text_is : (a b : List ℕ) → is_eq (slice_cmp nat_cmp a b) ≡ true → a ≡ b
text_is a b e = (bytes_eq-Decides a b).0 (texts_ties a b ∙ e)

text_ties : (a : List ℕ) → is_eq (slice_cmp nat_cmp a a) ≡ true
text_ties a = sym (texts_ties a a) ∙ (bytes_eq-Decides a a).1 refl

key_is : (a b : FieldKey) → eq_by_cmp key_cmp a b ≡ true → a ≡ b
key_is a b e =
    let first = both_equal (slice_cmp nat_cmp a.0 b.0) _ e in
    let rest = both_equal (slice_cmp nat_cmp a.1 b.1) (slice_cmp nat_cmp a.2 b.2) first.1 in
    ap (λ (t : List ℕ). (t, a.1, a.2)) (text_is a.0 b.0 first.0)
    ∙ ap (λ (t : List ℕ). (b.0, t, a.2)) (text_is a.1 b.1 rest.0)
    ∙ ap (λ (t : List ℕ). (b.0, b.1, t)) (text_is a.2 b.2 rest.1)

key_ties : (a : FieldKey) → eq_by_cmp key_cmp a a ≡ true
key_ties a = then_equal (slice_cmp nat_cmp a.0 a.0) _ (text_ties a.0) (then_equal (slice_cmp nat_cmp a.1 a.1) _ (text_ties a.1) (text_ties a.2))

false_unless : (b : Bool) → (b ≡ true → ⊥) → b ≡ false
false_unless true h = absurd (h refl)
false_unless false h = refl

-- ---- maps

get_written : (fields : Fields) (key : FieldKey) (v : Value) → get (insert fields key v) key ≡ Some v
get_written fields key v = get-insert key_total fields key v key ∙ ap (λ b. cond b (Some v) (get fields key)) (key_ties key)

get_other : (fields : Fields) (key other : FieldKey) (v : Value) → other ≢ key → get (insert fields key v) other ≡ get fields other
get_other fields key other v h =
    get-insert key_total fields key v other
    ∙ ap (λ b. cond b (Some v) (get fields other)) (false_unless (eq_by_cmp key_cmp other key) (λ e. h (key_is other key e)))

in_written : (fields : Fields) (kind : Kind) (key : FieldKey) (v : Value) → value_in (insert fields key v) kind key ≡ admit kind v
in_written fields kind key v = ap (λ o. admit kind (unwrap_or o (zero_of kind))) (get_written fields key v)

in_other : (fields : Fields) (kind : Kind) (key other : FieldKey) (v : Value) → other ≢ key → value_in (insert fields key v) kind other ≡ value_in fields kind other
in_other fields kind key other v h = ap (λ o. admit kind (unwrap_or o (zero_of kind))) (get_other fields key other v h)

-- ---- static fields

pub static_written : (heap : Heap) (kind : Kind) (key : FieldKey) (v : Value) → read_static (write_static key v heap) kind key ≡ admit kind v
static_written heap kind key v = in_written heap.statics kind key v

pub static_other : (heap : Heap) (kind : Kind) (key other : FieldKey) (v : Value) → other ≢ key → read_static (write_static key v heap) kind other ≡ read_static heap kind other
static_other heap kind key other v h = in_other heap.statics kind key other v h

-- ---- fields of objects

get_set : {A : Type 0} (xs : List A) (i : ℕ) (x y : A) → slice_get xs i ≡ Some x → slice_get (slice_set xs i y) i ≡ Some y
get_set [] zero x y e = absurd cc
get_set [] (suc i) x y e = absurd cc
get_set (z ∷ xs) zero x y e = refl
get_set (z ∷ xs) (suc i) x y e = get_set xs i x y e

get_set_other : {A : Type 0} (xs : List A) (i j : ℕ) (y : A) → (j ≡ i → ⊥) → slice_get (slice_set xs i y) j ≡ slice_get xs j
get_set_other [] i j y h = refl
get_set_other (z ∷ xs) zero zero y h = absurd (h refl)
get_set_other (z ∷ xs) zero (suc j) y h = refl
get_set_other (z ∷ xs) (suc i) zero y h = refl
get_set_other (z ∷ xs) (suc i) (suc j) y h = get_set_other xs i j y (λ e. h (ap suc e))

-- the object that was written
object_written : (heap : Heap) (key : FieldKey) (v : Value) (n : ℕ) (class : List ℕ) (fields : Fields) → slice_get heap.objects n ≡ Some (Instance class fields)
    → object_of (write_field key v (Obj n) heap) (Obj n) ≡ Some (Instance class (insert fields key v))
object_written heap key v n class fields e =
    ap (λ (o : Option Object). slice_get (with_field key v o n heap.objects) n) e ∙ get_set heap.objects n (Instance class fields) (Instance class (insert fields key v)) e

pub field_written : (heap : Heap) (kind : Kind) (key : FieldKey) (v : Value) (n : ℕ) (class : List ℕ) (fields : Fields) → object_of heap (Obj n) ≡ Some (Instance class fields)
    → read_field (write_field key v (Obj n) heap) kind key (Obj n) ≡ admit kind v
field_written heap kind key v n class fields e =
    ap (λ (o : Option Object). value_in (fields_of o) kind key) (object_written heap key v n class fields e) ∙ in_written fields kind key v

with_other : (key : FieldKey) (v : Value) (o : Option Object) (n m : ℕ) (objects : List Object) → (m ≡ n → ⊥) → slice_get (with_field key v o n objects) m ≡ slice_get objects m
with_other key v (Some (Instance class fields)) n m objects h = get_set_other objects n m _ h
with_other key v (Some (Array type elements)) n m objects h = refl
with_other key v None n m objects h = refl

-- another object
pub object_other : (heap : Heap) (key : FieldKey) (v : Value) (n m : ℕ) → (m ≡ n → ⊥) → object_of (write_field key v (Obj n) heap) (Obj m) ≡ object_of heap (Obj m)
object_other heap key v n m h = with_other key v (slice_get heap.objects n) n m heap.objects h

by_other : (heap : Heap) (kind : Kind) (key other : FieldKey) (v : Value) (n : ℕ) (o : Option Object) → slice_get heap.objects n ≡ o → other ≢ key
    → value_in (fields_of (slice_get (with_field key v o n heap.objects) n)) kind other ≡ value_in (fields_of (slice_get heap.objects n)) kind other
by_other heap kind key other v n (Some (Instance class fields)) e h =
    ap (λ (o : Option Object). value_in (fields_of o) kind other) (get_set heap.objects n (Instance class fields) (Instance class (insert fields key v)) e)
    ∙ in_other fields kind key other v h
    ∙ sym (ap (λ (o : Option Object). value_in (fields_of o) kind other) e)
by_other heap kind key other v n (Some (Array type elements)) e h = refl
by_other heap kind key other v n None e h = refl

-- another field of the object
pub field_other : (heap : Heap) (kind : Kind) (key other : FieldKey) (v : Value) (n : ℕ) → other ≢ key
    → read_field (write_field key v (Obj n) heap) kind other (Obj n) ≡ read_field heap kind other (Obj n)
field_other heap kind key other v n h = by_other heap kind key other v n (slice_get heap.objects n) refl h
