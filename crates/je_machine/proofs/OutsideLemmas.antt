-- What an action leaves of the outside: events are only added, and answers are only taken from the front.
use Rattle.std.proofs.Common.{◌≡◌, ℕ, List, [], ◌∷◌, ◌++◌, Option, Some, None, Bool, true, false, ◌&&◌, refl, sym, ap, subst, ◌∙◌}
use Rattle.std.specs.Prelude.{IsTrue, pos, int_lt, map, option_map, unwrap_or, if◌then◌else◌}
use Rattle.std.specs.List.{list_any}
use Rattle.std.specs.Int.{int_wrap}
use Rattle.std.proofs.lemmas.List.{append-nil}
use Rattle.je_machine.specs.Value.{Kind, IntKind, LongKind, FloatKind, DoubleKind, ReferenceKind, Value, Int, Long, Flt, Dbl, Null, Obj, Const, admit, admit_all, is_of_kind, zero_of, value_at, number_of, is_null, kind_of}
use Rattle.je_desc.specs.FieldType.{FieldType}
use Rattle.je_desc.specs.Descriptor.{MethodTypes}
use Rattle.je_machine.specs.Content.{Content}
use Rattle.std.specs.FinMap.{empty, get-empty}
use Rattle.je_machine.specs.Heap.{FieldKey, key_cmp, Heap, object_of, fields_of, value_in}
use Rattle.je_machine.specs.Sample.{value_answer, throw_answer}
use Rattle.je_machine.specs.Classes.{Classes, is_instance, takes_element}
use Rattle.je_machine.specs.Calculation.{calculate}
use Rattle.je_machine.specs.Action.{Action, Field, Calculate, FloatOperation, ArrayLength, LoadElement, StoreElement, GetField, PutField, GetStatic, PutStatic, Invoke, New, NewArray, CheckCast, InstanceOf, MonitorEnter, MonitorExit, Sort, operands_of, result_of, has_target, has_receiver}
use Rattle.je_machine.specs.Outside.{Outside, Answer, Reply, Gives, Throws, Response, Gave, Threw, Waits, raise, throw_admitted, throw_reference, reply_in, next_reply, next_number, with_event}
use Rattle.je_machine.specs.Acting.{calculated, loaded, stored, cast, field_key, answer, unless_null, null_pointer, admit_result, admit_response, act_on, act}
use Rattle.je_machine.specs.Acts.{Keeps, HasKept, GivesKind, is_result, are_of_kinds, is_right, is_reference, after_call}

pub keeps_refl : (o : Outside) → Keeps o o
keeps_refl o = record { events = ([], sym (append-nil o.events)); answers = ([], refl) }

-- the outside with another heap
same_lists : (o p : Outside) → p.events ≡ o.events → p.answers ≡ o.answers → Keeps o p
same_lists o p e f = record { events = ([], e ∙ sym (append-nil o.events)); answers = ([], sym f) }

-- ---- an admitted value is of the kind

pub zero_is_of_kind : (k : Kind) → is_of_kind k (zero_of k) ≡ true
unfolding int_wrap
zero_is_of_kind IntKind = refl
zero_is_of_kind LongKind = refl
zero_is_of_kind FloatKind = refl
zero_is_of_kind DoubleKind = refl
zero_is_of_kind ReferenceKind = refl

kind_by : (k : Kind) (v : Value) (b : Bool) → is_of_kind k v ≡ b → is_of_kind k (if b then v else zero_of k) ≡ true
kind_by k v true e = e
kind_by k v false e = zero_is_of_kind k

pub admit_is_of_kind : (k : Kind) (v : Value) → is_of_kind k (admit k v) ≡ true
admit_is_of_kind k v = kind_by k v (is_of_kind k v) refl

admit_by : (k : Kind) (v : Value) (b : Bool) → b ≡ true → (if b then v else zero_of k) ≡ v
admit_by k v true e = refl
admit_by k v false e = absurd cc

-- what is of the kind is admitted given it is
pub admit_same : (k : Kind) (v : Value) → is_of_kind k v ≡ true → admit k v ≡ v
admit_same k v e = admit_by k v (is_of_kind k v) e

admit_zero : (k : Kind) (v : Value) (b : Bool) → b ≡ false → (if b then v else zero_of k) ≡ zero_of k
admit_zero k v true e = absurd cc
admit_zero k v false e = refl

pub admit_wrong : (k : Kind) (v : Value) → is_of_kind k v ≡ false → admit k v ≡ zero_of k
admit_wrong k v e = admit_zero k v (is_of_kind k v) e

-- ---- throws

throws_kept : (v : Value) (o p : Outside) → Keeps o p → IsTrue (is_of_kind ReferenceKind v) → HasKept o (throw_admitted v p)
throws_kept (Int n) o p h t = absurd cc
throws_kept (Long n) o p h t = absurd cc
throws_kept (Flt n) o p h t = absurd cc
throws_kept (Dbl n) o p h t = absurd cc
throws_kept Null o p h t = (record { events = h.events; answers = h.answers }, refl)
throws_kept (Obj n) o p h t = (h, refl)
throws_kept (Const c) o p h t = (h, t)

-- a reference that was thrown
pub throw_kept : (v : Value) (o p : Outside) → Keeps o p → HasKept o (throw_reference v p)
throw_kept v o p h = throws_kept (admit ReferenceKind v) o p h (admit_is_of_kind ReferenceKind v)

-- an exception of the machine's own
raise_kept : (class : List ℕ) (o : Outside) → HasKept o (raise class o)
raise_kept class o = (same_lists o _ refl refl, refl)

-- ---- what takes answers

events_kept : (o : Outside) (a : Action) (ops : List Value) (p : Outside) (taken : List Answer) → p.events ≡ (with_event a ops o).events
    → o.answers ≡ taken ++ p.answers → Keeps o p
events_kept o a ops p taken e f = record {
  events = (record { action = a; operands = ops; heap = o.heap } ∷ [], e);
  answers = (taken, f);
}

number_kept : (k : Kind) (given : List Answer) (o : Outside) (a : Action) (ops : List Value) → o.answers ≡ given → HasKept o (next_number k given (with_event a ops o))
number_kept k [] o a ops e = events_kept o a ops _ [] refl refl
number_kept k (x ∷ given) o a ops e = events_kept o a ops _ (x ∷ []) refl e

in_reply_kept : (r : Reply) (o p : Outside) → Keeps o p → HasKept o (reply_in r p)
in_reply_kept (Gives v) o p h = h
in_reply_kept (Throws v) o p h = throw_kept v o p h

reply_kept : (given : List Answer) (o : Outside) (a : Action) (ops : List Value) → o.answers ≡ given → HasKept o (next_reply given (with_event a ops o))
reply_kept [] o a ops e = events_kept o a ops _ [] refl refl
reply_kept (x ∷ given) o a ops e =
    let p : Outside = record { heap = x.heap; events = (with_event a ops o).events; answers = given } in
    in_reply_kept x.reply o p (events_kept o a ops p (x ∷ []) refl e)

-- ---- each action

calculated_kept : (v : Option Value) (o : Outside) → HasKept o (calculated v o)
calculated_kept (Some v) o = keeps_refl o
calculated_kept None o = raise_kept _ o

loaded_kept : (v : Option Value) (o : Outside) → HasKept o (loaded v o)
loaded_kept (Some v) o = keeps_refl o
loaded_kept None o = raise_kept _ o

if_kept : (b : Bool) (o : Outside) (r q : Response) → HasKept o r → HasKept o q → HasKept o (if b then r else q)
if_kept true o r q h k = h
if_kept false o r q h k = k

stored_kept : (classes : Classes) (old : Option Value) (i : ℕ) (v t : Value) (o : Outside) → HasKept o (stored classes old i v t o)
stored_kept classes None i v t o = raise_kept _ o
stored_kept classes (Some old) i v t o = if_kept (takes_element classes o.heap t v) o _ _ (same_lists o _ refl refl) (raise_kept _ o)

cast_kept : (b : Bool) (v : Value) (o : Outside) → HasKept o (cast b v o)
cast_kept true v o = keeps_refl o
cast_kept false v o = if_kept (is_null v) o _ _ (keeps_refl o) (raise_kept _ o)

answer_kept : (classes : Classes) (a : Action) (ops : List Value) (o : Outside) → HasKept o (answer classes a ops o)
answer_kept classes (Calculate c) ops o = calculated_kept (calculate c ops) o
answer_kept classes (FloatOperation opcode operands result) ops o = number_kept result o.answers o _ ops refl
answer_kept classes ArrayLength ops o = keeps_refl o
answer_kept classes (LoadElement e) ops o = loaded_kept _ o
answer_kept classes (StoreElement e) ops o = stored_kept classes _ _ _ _ o
answer_kept classes (GetField f) ops o = keeps_refl o
answer_kept classes (PutField f) ops o = same_lists o _ refl refl
answer_kept classes (GetStatic f) ops o = keeps_refl o
answer_kept classes (PutStatic f) ops o = same_lists o _ refl refl
answer_kept classes (Invoke sort method types) ops o = reply_kept o.answers o _ ops refl
answer_kept classes (New class) ops o = same_lists o _ refl refl
answer_kept classes (NewArray type dimensions) ops o =
    if_kept (list_any (λ n. int_lt n (pos 0)) (map number_of ops)) o _ _ (raise_kept _ o) (same_lists o _ refl refl)
answer_kept classes (CheckCast class) ops o = cast_kept (is_instance classes o.heap (value_at ops 0) class) _ o
answer_kept classes (InstanceOf class) ops o = keeps_refl o
answer_kept classes MonitorEnter ops o = events_kept o _ ops _ [] refl refl
answer_kept classes MonitorExit ops o = events_kept o _ ops _ [] refl refl

-- ---- the whole

unless_null_kept : (b : Bool) (r : Response) (o : Outside) → HasKept o r → HasKept o (unless_null b r o)
unless_null_kept true r o h = raise_kept _ o
unless_null_kept false r o h = h

admitted_kept : (k : Option Kind) (o : Outside) (r : Response) → HasKept o r → HasKept o (admit_response k r)
admitted_kept k o (Gave v after) h = h
admitted_kept k o (Threw v after) h = h
admitted_kept k o (Waits after) h = h

pub act_kept : (classes : Classes) (a : Action) (ops : List Value) (o : Outside) → HasKept o (act classes a ops o)
act_kept classes a ops o =
    let operands = admit_all (operands_of a) ops in
    admitted_kept (result_of a) o _ (unless_null_kept (has_target a && is_null (value_at operands 0)) _ o (answer_kept classes a operands o))

result_is : (k : Option Kind) (v : Option Value) → IsTrue (is_result k (admit_result k v))
result_is None v = refl
result_is (Some k) None = zero_is_of_kind k
result_is (Some k) (Some v) = admit_is_of_kind k v

gives_kind : (k : Option Kind) (r : Response) → GivesKind k (admit_response k r)
gives_kind k (Gave v after) = result_is k v
gives_kind k (Threw v after) = tt
gives_kind k (Waits after) = tt

pub act_gives : (classes : Classes) (a : Action) (ops : List Value) (o : Outside) → GivesKind (result_of a) (act classes a ops o)
act_gives classes a ops o = gives_kind (result_of a) _

-- ---- right operands and right results

pub first_holds : (b c : Bool) → b && c ≡ true → b ≡ true
first_holds true c e = refl
first_holds false c e = e

pub second_holds : (b c : Bool) → b && c ≡ true → c ≡ true
second_holds true c e = e
second_holds false c e = absurd cc

pub admit_all_same : (kinds : List Kind) (values : List Value) → are_of_kinds kinds values ≡ true → admit_all kinds values ≡ values
admit_all_same [] [] e = refl
admit_all_same [] (v ∷ vs) e = absurd cc
admit_all_same (k ∷ ks) [] e = absurd cc
admit_all_same (k ∷ ks) (v ∷ vs) e =
    let f = admit_same k v (first_holds (is_of_kind k v) (are_of_kinds ks vs) e) in
    let g = admit_all_same ks vs (second_holds (is_of_kind k v) (are_of_kinds ks vs) e) in
    cc

result_same : (k : Option Kind) (v : Option Value) → is_result k v ≡ true → admit_result k v ≡ v
result_same None None e = refl
result_same None (Some v) e = absurd cc
result_same (Some k) None e = absurd cc
result_same (Some k) (Some v) e = cc (admit_same k v e)

response_same : (k : Option Kind) (r : Response) → is_right k r ≡ true → admit_response k r ≡ r
response_same k (Gave v after) e = cc (result_same k v e)
response_same k (Threw v after) e = refl
response_same k (Waits after) e = refl

pub act_right : (classes : Classes) (a : Action) (ops : List Value) (o : Outside) → are_of_kinds (operands_of a) ops ≡ true
    → act classes a ops o ≡ act_on classes a ops o
act_right classes a ops o e = cc (admit_all_same (operands_of a) ops e)

by_target : (k : Option Kind) (b : Bool) (r : Response) (o : Outside) → b ≡ false → is_right k r ≡ true → admit_response k (unless_null b r o) ≡ r
by_target k true r o e f = absurd cc
by_target k false r o e f = response_same k r f

pub act_answers : (classes : Classes) (a : Action) (ops : List Value) (o : Outside) → are_of_kinds (operands_of a) ops ≡ true
    → has_target a && is_null (value_at ops 0) ≡ false → is_right (result_of a) (answer classes a ops o) ≡ true
    → act classes a ops o ≡ answer classes a ops o
act_answers classes a ops o e f g = act_right classes a ops o e ∙ by_target (result_of a) _ (answer classes a ops o) o f g

by_null : (k : Option Kind) (b c : Bool) (r : Response) (o : Outside) → b ≡ true → c ≡ true → admit_response k (unless_null (b && c) r o) ≡ null_pointer o
by_null k true true r o e f = refl
by_null k true false r o e f = absurd cc
by_null k false c r o e f = absurd cc

pub act_null : (classes : Classes) (a : Action) (ops : List Value) (o : Outside) → has_target a ≡ true → is_null (value_at (admit_all (operands_of a) ops) 0) ≡ true
    → act classes a ops o ≡ null_pointer o
act_null classes a ops o e f = by_null (result_of a) (has_target a) _ _ o e f

-- ---- calls

by_reply : (k : Option Kind) (b : Bool) (given : List Answer) (x : Answer) (rest : List Answer) (o before : Outside) → b ≡ false → given ≡ x ∷ rest
    → admit_response k (unless_null b (next_reply given o) before) ≡ admit_response k (reply_in x.reply (record o { heap = x.heap; answers = rest }))
by_reply k true given x rest o before e f = absurd cc
by_reply k false [] x rest o before e f = absurd cc
by_reply k false (y ∷ ys) x rest o before e f = cc

call_replies : (classes : Classes) (sort : Sort) (method : Content) (types : MethodTypes) (ops : List Value) (before : Outside) (x : Answer) (rest : List Answer)
    → are_of_kinds (operands_of (Invoke sort method types)) ops ≡ true → has_receiver sort && is_null (value_at ops 0) ≡ false → before.answers ≡ x ∷ rest
    → act classes (Invoke sort method types) ops before
    ≡ admit_response (option_map kind_of types.result) (reply_in x.reply (after_call (Invoke sort method types) ops before x.heap rest))
call_replies classes sort method types ops before x rest e f g =
    let a = Invoke sort method types in
    act_right classes a ops before e ∙ by_reply (result_of a) _ before.answers x rest (with_event a ops before) before f g

value_given : (result : Option FieldType) (type : FieldType) (v : Value) (o : Outside) → result ≡ Some type → is_of_kind (kind_of type) v ≡ true
    → admit_response (option_map kind_of result) (Gave (Some v) o) ≡ Gave (Some v) o
value_given None type v o e f = absurd cc
value_given (Some t) type v o e f = let same : t ≡ type = cc in cc (result_same (Some (kind_of t)) (Some v) (subst (λ u. is_of_kind (kind_of u) v ≡ true) (sym same) f))

pub call_given : (classes : Classes) (sort : Sort) (method : Content) (types : MethodTypes) (ops : List Value) (before : Outside) (v : Value) (type : FieldType)
    (heap : Heap) (rest : List Answer)
    → are_of_kinds (operands_of (Invoke sort method types)) ops ≡ true → has_receiver sort && is_null (value_at ops 0) ≡ false
    → before.answers ≡ value_answer v heap ∷ rest → types.result ≡ Some type → is_of_kind (kind_of type) v ≡ true
    → act classes (Invoke sort method types) ops before ≡ Gave (Some v) (after_call (Invoke sort method types) ops before heap rest)
call_given classes sort method types ops before v type heap rest e f g h i =
    call_replies classes sort method types ops before (value_answer v heap) rest e f g ∙ value_given types.result type v _ h i

nothing_given : (result : Option FieldType) (v : Value) (o : Outside) → result ≡ None → admit_response (option_map kind_of result) (Gave (Some v) o) ≡ Gave None o
nothing_given None v o e = refl
nothing_given (Some t) v o e = absurd cc

pub call_gives_nothing : (classes : Classes) (sort : Sort) (method : Content) (types : MethodTypes) (ops : List Value) (before : Outside) (v : Value)
    (heap : Heap) (rest : List Answer)
    → are_of_kinds (operands_of (Invoke sort method types)) ops ≡ true → has_receiver sort && is_null (value_at ops 0) ≡ false
    → before.answers ≡ value_answer v heap ∷ rest → types.result ≡ None
    → act classes (Invoke sort method types) ops before ≡ Gave None (after_call (Invoke sort method types) ops before heap rest)
call_gives_nothing classes sort method types ops before v heap rest e f g h =
    call_replies classes sort method types ops before (value_answer v heap) rest e f g ∙ nothing_given types.result v _ h

reference_thrown : (k : Option Kind) (v : Value) (o : Outside) → IsTrue (is_reference v) → admit_response k (throw_reference v o) ≡ Threw v o
reference_thrown k (Obj n) o e = refl
reference_thrown k (Const c) o e = let f : admit ReferenceKind (Const c) ≡ Const c = admit_same ReferenceKind (Const c) e in cc
reference_thrown k (Int n) o e = absurd cc
reference_thrown k (Long n) o e = absurd cc
reference_thrown k (Flt n) o e = absurd cc
reference_thrown k (Dbl n) o e = absurd cc
reference_thrown k Null o e = absurd cc

pub call_thrown : (classes : Classes) (sort : Sort) (method : Content) (types : MethodTypes) (ops : List Value) (before : Outside) (v : Value)
    (heap : Heap) (rest : List Answer)
    → are_of_kinds (operands_of (Invoke sort method types)) ops ≡ true → has_receiver sort && is_null (value_at ops 0) ≡ false
    → before.answers ≡ throw_answer v heap ∷ rest → IsTrue (is_reference v)
    → act classes (Invoke sort method types) ops before ≡ Threw v (after_call (Invoke sort method types) ops before heap rest)
call_thrown classes sort method types ops before v heap rest e f g h =
    call_replies classes sort method types ops before (throw_answer v heap) rest e f g ∙ reference_thrown (option_map kind_of types.result) v _ h

-- ---- fields

and_true : (b : Bool) → b ≡ true → b && true ≡ true
and_true true e = refl
and_true false e = e

pub static_got : (classes : Classes) (f : Field) (o : Outside) → act classes (GetStatic f) [] o ≡ answer classes (GetStatic f) [] o
static_got classes f o = act_answers classes (GetStatic f) [] o refl refl (admit_is_of_kind (kind_of f.type) _)

pub static_put : (classes : Classes) (f : Field) (v : Value) (o : Outside) → is_of_kind (kind_of f.type) v ≡ true
    → act classes (PutStatic f) (v ∷ []) o ≡ answer classes (PutStatic f) (v ∷ []) o
static_put classes f v o e = act_answers classes (PutStatic f) (v ∷ []) o (and_true (is_of_kind (kind_of f.type) v) e) refl refl

pub field_got : (classes : Classes) (f : Field) (n : ℕ) (o : Outside) → act classes (GetField f) (Obj n ∷ []) o ≡ answer classes (GetField f) (Obj n ∷ []) o
field_got classes f n o = act_answers classes (GetField f) (Obj n ∷ []) o refl refl (admit_is_of_kind (kind_of f.type) _)

pub field_put : (classes : Classes) (f : Field) (n : ℕ) (v : Value) (o : Outside) → is_of_kind (kind_of f.type) v ≡ true
    → act classes (PutField f) (Obj n ∷ v ∷ []) o ≡ answer classes (PutField f) (Obj n ∷ v ∷ []) o
field_put classes f n v o e = act_answers classes (PutField f) (Obj n ∷ v ∷ []) o (and_true (is_of_kind (kind_of f.type) v) e) refl refl

empty_reads : (k : Kind) (key : FieldKey) → value_in empty k key ≡ zero_of k
empty_reads k key = ap (λ v. admit k (unwrap_or v (zero_of k))) (get-empty key_cmp key) ∙ admit_same k (zero_of k) (zero_is_of_kind k)

-- what has no fields reads as zeros
pub zero_got : (classes : Classes) (f : Field) (v : Value) (o : Outside) → is_of_kind ReferenceKind v ≡ true → is_null v ≡ false
    → fields_of (object_of o.heap v) ≡ empty → act classes (GetField f) (v ∷ []) o ≡ Gave (Some (zero_of (kind_of f.type))) o
zero_got classes f v o e n h =
    act_answers classes (GetField f) (v ∷ []) o (and_true (is_of_kind ReferenceKind v) e) n (admit_is_of_kind (kind_of f.type) _)
    ∙ ap (λ m. Gave (Some (value_in m (kind_of f.type) (field_key classes f))) o) h
    ∙ ap (λ z. Gave (Some z) o) (empty_reads (kind_of f.type) (field_key classes f))
