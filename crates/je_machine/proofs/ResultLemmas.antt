-- On operands of the right kinds the machine's own results are of the right kinds.
use Rattle.std.proofs.Common.{◌≡◌, ℕ, List, [], ◌∷◌, Option, Some, None, Bool, true, false, refl}
use Rattle.std.specs.Prelude.{IsTrue, pos, ◌<◌, ◌^◌, IfSome, option_map, map, int_lt, unsigned_abs, if◌then◌else◌}
use Rattle.std.specs.List.{list_any}
use Rattle.std.specs.Int.{w32, int_wrap}
use Rattle.je_desc.specs.FieldType.{FieldType}
use Rattle.je_machine.specs.Value.{Kind, IntKind, ReferenceKind, Value, is_of_kind, admit, value_at, number_of, is_null, kind_of}
use Rattle.je_machine.specs.Heap.{Heap, array_length, element_at, elements_of, object_of, make_array}
use Rattle.je_machine.specs.Classes.{Classes, is_instance, takes_element}
use Rattle.je_machine.specs.Calculation.{calculate, calculation_result}
use Rattle.je_machine.specs.Action.{Action, Calculate, FloatOperation, ArrayLength, LoadElement, StoreElement, GetField, PutField, GetStatic, PutStatic, Invoke, New, NewArray, CheckCast, InstanceOf, MonitorEnter, MonitorExit, kind_of_element, operands_of, result_of}
use Rattle.je_machine.specs.Outside.{Outside, Answer, Reply, Gives, Throws, Response, next_number, value_or_zero}
use Rattle.je_machine.specs.Acting.{calculated, loaded, stored, cast, int_of_bool, answer}
use Rattle.je_machine.specs.Acts.{are_of_kinds, is_own, is_right}
use Rattle.je_machine.proofs.OutsideLemmas.{admit_is_of_kind, zero_is_of_kind}
use Rattle.je_machine.proofs.KindLemmas.{by_fits, one, calculate_keeps}

calculated_right : (k : Kind) (v : Option Value) (o : Outside) → IfSome v (λ x. IsTrue (is_of_kind k x)) → is_right (Some k) (calculated v o) ≡ true
calculated_right k (Some v) o h = h
calculated_right k None o h = refl

reply_right : (k : Kind) (r : Reply) → is_of_kind k (value_or_zero k r) ≡ true
reply_right k (Gives v) = admit_is_of_kind k v
reply_right k (Throws v) = zero_is_of_kind k

float_right : (k : Kind) (answers : List Answer) (o : Outside) → is_right (Some k) (next_number k answers o) ≡ true
float_right k [] o = refl
float_right k (x ∷ xs) o = reply_right k x.reply

loaded_right : (k : Kind) (v : Option Value) (o : Outside) → is_right (Some k) (loaded (option_map (admit k) v) o) ≡ true
loaded_right k (Some v) o = admit_is_of_kind k v
loaded_right k None o = refl

if_right : (k : Option Kind) (b : Bool) (r q : Response) → is_right k r ≡ true → is_right k q ≡ true → is_right k (if b then r else q) ≡ true
if_right k true r q h i = h
if_right k false r q h i = i

stored_right : (classes : Classes) (old : Option Value) (i : ℕ) (v t : Value) (o : Outside) → is_right None (stored classes old i v t o) ≡ true
stored_right classes None i v t o = refl
stored_right classes (Some old) i v t o = if_right None (takes_element classes o.heap t v) _ _ refl refl

array_right : (type : FieldType) (sizes : List ℕ) (heap : Heap) → is_of_kind ReferenceKind (make_array type sizes heap).0 ≡ true
array_right type [] heap = refl
array_right type (n ∷ []) heap = refl
array_right type (n ∷ m ∷ sizes) heap = refl

cast_right : (b : Bool) (v : Value) (o : Outside) → is_of_kind ReferenceKind v ≡ true → is_right (Some ReferenceKind) (cast b v o) ≡ true
cast_right true v o e = e
cast_right false v o e = if_right (Some ReferenceKind) (is_null v) _ _ e refl

bool_right : (b : Bool) → is_of_kind IntKind (int_of_bool b) ≡ true
unfolding int_wrap
bool_right true = refl
bool_right false = refl

pub answer_right : (classes : Classes) (a : Action) (ops : List Value) (o : Outside) → are_of_kinds (operands_of a) ops ≡ true → is_own a ≡ true
    → is_right (result_of a) (answer classes a ops o) ≡ true
answer_right classes (Calculate c) ops o e own = calculated_right (calculation_result c) (calculate c ops) o (calculate_keeps c ops e)
answer_right classes (FloatOperation opcode operands result) ops o e own = float_right result o.answers _
answer_right classes ArrayLength ops o e own = absurd cc
answer_right classes (LoadElement element) ops o e own = loaded_right (kind_of_element element) (element_at (elements_of (object_of o.heap (value_at ops 0))) (number_of (value_at ops 1))) o
answer_right classes (StoreElement element) ops o e own = stored_right classes _ _ _ _ o
answer_right classes (GetField f) ops o e own = admit_is_of_kind (kind_of f.type) _
answer_right classes (PutField f) ops o e own = refl
answer_right classes (GetStatic f) ops o e own = admit_is_of_kind (kind_of f.type) _
answer_right classes (PutStatic f) ops o e own = refl
answer_right classes (Invoke sort method types) ops o e own = absurd cc
answer_right classes (New class) ops o e own = refl
answer_right classes (NewArray type dimensions) ops o e own =
    if_right (Some ReferenceKind) (list_any (λ n. int_lt n (pos 0)) (map number_of ops)) _ _ refl (array_right type (map unsigned_abs (map number_of ops)) o.heap)
answer_right classes (CheckCast class) ops o e own = cast_right (is_instance classes o.heap (value_at ops 0) class) (value_at ops 0) o (one ReferenceKind ops e)
answer_right classes (InstanceOf class) ops o e own = bool_right _
answer_right classes MonitorEnter ops o e own = refl
answer_right classes MonitorExit ops o e own = refl

pub length_right : (classes : Classes) (ops : List Value) (o : Outside) → array_length o.heap (value_at ops 0) < 2 ^ 31
    → is_right (Some IntKind) (answer classes ArrayLength ops o) ≡ true
length_right classes ops o h = by_fits w32 _ (record { sfits = h })
