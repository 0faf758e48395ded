-- Keys of fields, and the maps that stored entries make.
use Rattle.std.proofs.Common.{◌≡◌, ℕ, zero, suc, ◌+◌, List, [], ◌∷◌, ◌++◌, Option, Some, None, Bool}
use Rattle.std.proofs.Common.{true, false, cond, refl, sym, ap, ◌∙◌, arith, ◌≡◌}
use Rattle.std.specs.Prelude.{slice_set, slice_index_or, option_map, ◌&&◌}
use Rattle.std.specs.declared.cmp.Ordering.{Ordering}
use Rattle.std.specs.declared.cmp.Ordering.TheVariants.{Less, Equal, Greater}
use Rattle.std.specs.Ordering.{nat_cmp, eq_by_cmp, is_eq, ordering_then, on, then_cmp}
use Rattle.std.specs.Cmp.{IsTotalOrder}
use Rattle.std.specs.Cmp.Lexicographic.{slice_cmp, nat_list_cmp_total, texts_ties}
use Rattle.std.specs.FinMap.{find, get, insert, from_entries, get-insert, get-from_entries}
use Rattle.std.specs.FinMap.{same_map, IsAntisymmetric, from_entries_push}
use Rattle.std.specs.List.{position_from}
use Rattle.std.specs.List as list
use Rattle.std.proofs.lemmas.Cmp.{on_total, then_total}
use Rattle.std.proofs.lemmas.Slice.Eq.{bytes_eq-Decides}
use Rattle.je_base.specs.Text.{is_same_text}
use Rattle.je_machine.specs.Value.{Value}
use Rattle.je_machine.specs.Heap.{FieldKey, key_cmp}
use Rattle.je_machine.specs.Classes.{is_same_key}
use Rattle.je_heap.specs.Stored.{place_of, put_at}

-- ---- keys are ordered, and equal where they compare equal

pub key_total : IsTotalOrder key_cmp
key_total =
    then_total {R = on (λ (k : FieldKey). k.0) (slice_cmp nat_cmp)}
    {S = then_cmp (on (λ (k : FieldKey). k.1) (slice_cmp nat_cmp))
    (on (λ (k : FieldKey). k.2) (slice_cmp nat_cmp))}
    (on_total (λ (k : FieldKey). k.0) nat_list_cmp_total)
    (then_total {R = on (λ (k : FieldKey). k.1) (slice_cmp nat_cmp)}
    {S = on (λ (k : FieldKey). k.2) (slice_cmp nat_cmp)}
    (on_total (λ (k : FieldKey). k.1) nat_list_cmp_total)
    (on_total (λ (k : FieldKey). k.2) nat_list_cmp_total))

is_equal : (o : Ordering) → is_eq o ≡ true → o ≡ Equal
is_equal Less e = absurd cc
is_equal Equal e = refl
is_equal Greater e = absurd cc

both_equal : (o p : Ordering) → ordering_then o p ≡ Equal → (o ≡ Equal) × (p ≡ Equal)
both_equal Less p e = absurd cc
both_equal Equal p e = (refl, e)
both_equal Greater p e = absurd cc

text_is : (a b : List ℕ) → slice_cmp nat_cmp a b ≡ Equal → a ≡ b
text_is a b e = (bytes_eq-Decides a b).0 (texts_ties a b ∙ ap is_eq e)

pub key_is : IsAntisymmetric key_cmp
key_is a b e =
    let first = both_equal (slice_cmp nat_cmp a.0 b.0) _ e in
    let rest = both_equal (slice_cmp nat_cmp a.1 b.1) (slice_cmp nat_cmp a.2 b.2) first.1 in
    ap (λ (t : List ℕ). (t, a.1, a.2)) (text_is a.0 b.0 first.0)
    ∙ ap (λ (t : List ℕ). (b.0, t, a.2)) (text_is a.1 b.1 rest.0)
    ∙ ap (λ (t : List ℕ). (b.0, b.1, t)) (text_is a.2 b.2 rest.1)

then_is : (o p q : Ordering)
    → ((is_eq o && is_eq p) && is_eq q) ≡ is_eq (ordering_then o (ordering_then p q))
then_is Less p q = refl
then_is Equal Less q = refl
then_is Equal Equal q = refl
then_is Equal Greater q = refl
then_is Greater p q = refl

-- the test of two keys is that of their order
pub same_key : (a b : FieldKey) → is_same_key a b ≡ eq_by_cmp key_cmp a b
same_key a b =
    ap (λ x. (x && is_same_text a.1 b.1) && is_same_text a.2 b.2) (texts_ties a.0 b.0)
    ∙ ap (λ x. (is_eq (slice_cmp nat_cmp a.0 b.0) && x) && is_same_text a.2 b.2)
    (texts_ties a.1 b.1)
    ∙ ap (λ x. (is_eq (slice_cmp nat_cmp a.0 b.0) && is_eq (slice_cmp nat_cmp a.1 b.1)) && x)
    (texts_ties a.2 b.2)
    ∙ then_is (slice_cmp nat_cmp a.0 b.0) (slice_cmp nat_cmp a.1 b.1) (slice_cmp nat_cmp a.2 b.2)

-- ---- what is found

found_is : (es : List (FieldKey × Value)) (key : FieldKey)
    → option_map (λ e. e.1) (list.find (λ e. is_same_key key e.0) es) ≡ find key_cmp key es
found_is [] key = refl
found_is (e ∷ es) key =
    let rest = found_is es key in
    elim (is_same_key key e.0) as
    (λ b. eq_by_cmp key_cmp key e.0 ≡ b
    → option_map (λ e. e.1) (cond b (Some e) (list.find (λ e. is_same_key key e.0) es))
    ≡ find key_cmp key (e ∷ es)) [
      | true ↦ λ t. sym (ap (λ b. cond b (Some e.1) (find key_cmp key es)) t)
      | false ↦ λ t. rest ∙ sym (ap (λ b. cond b (Some e.1) (find key_cmp key es)) t)
    ] (sym (same_key key e.0))

-- what the first entry of a key has is what the map has
pub got_is : (es : List (FieldKey × Value)) (key : FieldKey)
    → option_map (λ e. e.1) (list.find (λ e. is_same_key key e.0) es)
    ≡ get {R = key_cmp} (from_entries es) key
got_is es key = found_is es key ∙ sym (get-from_entries key_total es key)

-- ---- what is written

-- the position that a search from a number on finds
pub place_is : (key : FieldKey) (es : List (FieldKey × Value)) (s : ℕ)
    → position_from (λ e. is_same_key key e.0) s es ≡ option_map (λ i. s + i) (place_of key es)
place_is key [] s = refl
place_is key (e ∷ es) s =
    elim (is_same_key key e.0) as
    (λ b. cond b (Some s) (position_from (λ e. is_same_key key e.0) (s + 1) es)
    ≡ option_map (λ i. s + i) (cond b (Some 0) (option_map (λ i. suc i) (place_of key es)))) [
      | true ↦ ap Some (omega arith)
      | false ↦ place_is key es (s + 1) ∙ moved (place_of key es) s
    ]
  where
    moved : (o : Option ℕ) (s : ℕ)
        → option_map (λ i. (s + 1) + i) o ≡ option_map (λ i. s + i) (option_map (λ i. suc i) o)
    moved None s = refl
    moved (Some i) s = ap Some (omega arith)

-- an entry with another value stands at its index
pub set_is : (es : List (FieldKey × Value)) (i : ℕ) (v : Value) (d : FieldKey × Value)
    → slice_set es i ((slice_index_or es i d).0, v) ≡ put_at es i v
set_is [] i v d = refl
set_is (e ∷ es) zero v d = refl
set_is (e ∷ es) (suc i) v d = ap (λ es. e ∷ es) (set_is es i v d)

-- ---- what a search finds at the first entry, and behind it

none_first : (b : Bool) (o : Option ℕ) → cond b (Some 0) (option_map (λ i. suc i) o) ≡ None
    → (b ≡ false) × (o ≡ None)
none_first true o e = absurd cc
none_first false None e = (refl, refl)
none_first false (Some j) e = absurd cc

passed : (b : Bool) (o : Option ℕ) (i : ℕ)
    → cond b (Some 0) (option_map (λ i. suc i) o) ≡ Some (suc i) → (b ≡ false) × (o ≡ Some i)
passed true o i e = absurd cc
passed false None i e = absurd cc
passed false (Some j) i e = (refl, cc)

here : (b : Bool) (o : Option ℕ) → cond b (Some 0) (option_map (λ i. suc i) o) ≡ Some 0 → b ≡ true
here true o e = refl
here false None e = absurd cc
here false (Some j) e = absurd cc

-- keys that are one answer alike
alike : (key first q : FieldKey) → is_same_key key first ≡ true
    → eq_by_cmp key_cmp q first ≡ eq_by_cmp key_cmp q key
alike key first q e =
    ap (λ k. eq_by_cmp key_cmp q k)
    (sym (key_is key first (is_equal _ (sym (same_key key first) ∙ e))))

-- a test that passes first, of two tests of which at most one passes
swapped : {A : Type 0} (a b : Bool) (x y z : A) → (a ≡ true → b ≡ true → ⊥)
    → cond a x (cond b y z) ≡ cond b y (cond a x z)
swapped true true x y z h = absurd (h refl refl)
swapped true false x y z h = refl
swapped false b x y z h = refl

shadowed : {A : Type 0} (a b : Bool) (x y z : A) → a ≡ b → cond a x z ≡ cond b x (cond a y z)
shadowed true true x y z e = refl
shadowed true false x y z e = absurd cc
shadowed false true x y z e = absurd cc
shadowed false false x y z e = refl

apart : (key first q : FieldKey) → is_same_key key first ≡ false → eq_by_cmp key_cmp q first ≡ true
    → eq_by_cmp key_cmp q key ≡ true → ⊥
apart key first q n a b =
    let one = key_is q first (is_equal _ a) in
    let two = key_is q key (is_equal _ b) in
    let same : is_same_key key key ≡ true = same_key key key
    ∙ sym (ap (λ k. eq_by_cmp key_cmp k key) two) ∙ b in
    let t : true ≡ false = sym same ∙ ap (λ k. is_same_key key k) (sym two ∙ one) ∙ n in
    absurd cc

-- what is found once a value is put at the first entry of a key
found_put : (key q : FieldKey) (v : Value) (es : List (FieldKey × Value)) (i : ℕ)
    → place_of key es ≡ Some i
    → find key_cmp q (put_at es i v) ≡ cond (eq_by_cmp key_cmp q key) (Some v) (find key_cmp q es)
found_put key q v [] i e = absurd cc
found_put key q v (e ∷ es) zero at =
    shadowed (eq_by_cmp key_cmp q e.0) (eq_by_cmp key_cmp q key) (Some v) (Some e.1)
    (find key_cmp q es) (alike key e.0 q (here _ _ at))
found_put key q v (e ∷ es) (suc i) at =
    let past = passed _ _ _ at in
    ap (cond (eq_by_cmp key_cmp q e.0) (Some e.1)) (found_put key q v es i past.1)
    ∙ swapped (eq_by_cmp key_cmp q e.0) (eq_by_cmp key_cmp q key) (Some e.1) (Some v)
    (find key_cmp q es) (apart key e.0 q past.0)

-- where no entry has a key, nothing is found
found_none : (key : FieldKey) (es : List (FieldKey × Value)) → place_of key es ≡ None
    → find key_cmp key es ≡ None
found_none key [] e = refl
found_none key (e ∷ es) at =
    let past = none_first _ _ at in
    ap (λ b. cond b (Some e.1) (find key_cmp key es)) (sym (same_key key e.0) ∙ past.0)
    ∙ found_none key es past.1

zero_on : (o : Option ℕ) → option_map (λ i. 0 + i) o ≡ o
zero_on None = refl
zero_on (Some i) = ap Some (omega arith)

place_at : (key : FieldKey) (es : List (FieldKey × Value)) (o : Option ℕ)
    → o ≡ position_from (λ e. is_same_key key e.0) 0 es → place_of key es ≡ o
place_at key es o e = sym (e ∙ place_is key es 0 ∙ zero_on (place_of key es))

-- to put a value at the first entry of a key is to insert it
pub put_is : (key : FieldKey) (v : Value) (es : List (FieldKey × Value)) (i : ℕ)
    (fs : List (FieldKey × Value)) → fs ≡ es
    → Some i ≡ position_from (λ e. is_same_key key e.0) 0 fs
    → from_entries {R = key_cmp} (put_at es i v) ≡ insert (from_entries es) key v
put_is key v es i fs same at = same_map key_total key_is _ _ (λ q.
    get-from_entries key_total (put_at es i v) q
    ∙ found_put key q v es i
    (place_at key es (Some i)
    (at ∙ ap (λ es. position_from (λ e. is_same_key key e.0) 0 es) same))
    ∙ sym (get-insert key_total (from_entries es) key v q
    ∙ ap (cond (eq_by_cmp key_cmp q key) (Some v)) (get-from_entries key_total es q)))

-- and so is to push it where there is none
pub push_is : (key : FieldKey) (v : Value) (es fs : List (FieldKey × Value)) → fs ≡ es
    → None ≡ position_from (λ e. is_same_key key e.0) 0 fs
    → from_entries {R = key_cmp} (es ++ (key, v) ∷ []) ≡ insert (from_entries es) key v
push_is key v es fs same at =
    from_entries_push key_total key_is es key v
    (found_none key es (place_at key es None
    (at ∙ ap (λ es. position_from (λ e. is_same_key key e.0) 0 es) same)))
