-- A text is the descriptor of one type at most, and of one method's types.
use Rattle.std.proofs.Common.{◌≡◌, ◌≢◌, ℕ, List, [], ◌∷◌, ◌++◌, Option, Some, None, refl, sym, ap}
use Rattle.std.proofs.Common.{◌∙◌, arith, append_assoc}
use Rattle.std.specs.Prelude.{IfSome, ◌==◌, if◌then◌else◌}
use Rattle.std.specs.List.{AllByRecursion, flat_map}
use Rattle.std.proofs.lemmas.List.{append-nil}
use Rattle.std.proofs.lemmas.List.Elements.{recursion_from_All}
use Rattle.je_desc.specs.Names.{IsNameByte}
use Rattle.je_desc.specs.FieldType.{BaseType, Byte, Char, Double, Float, Int, Long, Short, Boolean}
use Rattle.je_desc.specs.FieldType.{FieldType, Base, Object, Array, HasName, IsFieldType, letter}
use Rattle.je_desc.specs.FieldType.{descriptor}
use Rattle.je_desc.specs.Descriptor.{MethodTypes, SpellsField, SpellsMethod, return_descriptor}

same_head : (a b : ℕ) (xs ys : List ℕ) → a ∷ xs ≡ b ∷ ys → a ≡ b
same_head a b xs ys e = cc

same_tail : (a b : ℕ) (xs ys : List ℕ) → a ∷ xs ≡ b ∷ ys → xs ≡ ys
same_tail a b xs ys e = cc

-- ---- letters

abbrev base_of : ℕ → Option BaseType
base_of n =
    if n == 66 then Some Byte else
    if n == 67 then Some Char else
    if n == 68 then Some Double else
    if n == 70 then Some Float else
    if n == 73 then Some Int else
    if n == 74 then Some Long else
    if n == 83 then Some Short else
    Some Boolean

base_again : (b : BaseType) → base_of (letter b) ≡ Some b
base_again Byte = refl
base_again Char = refl
base_again Double = refl
base_again Float = refl
base_again Int = refl
base_again Long = refl
base_again Short = refl
base_again Boolean = refl

one_letter : (b c : BaseType) → letter b ≡ letter c → b ≡ c
one_letter b c e =
    let same : Some b ≡ Some c = sym (base_again b) ∙ ap base_of e ∙ base_again c in
    cc

-- `)`, `L`, `V` and `[` are no letters
letter_apart : (b : BaseType) → (letter b ≢ 41) × (letter b ≢ 76) × (letter b ≢ 86) × (letter b ≢ 91)
letter_apart Byte = (λ e. omega arith, λ e. omega arith, λ e. omega arith, λ e. omega arith)
letter_apart Char = (λ e. omega arith, λ e. omega arith, λ e. omega arith, λ e. omega arith)
letter_apart Double = (λ e. omega arith, λ e. omega arith, λ e. omega arith, λ e. omega arith)
letter_apart Float = (λ e. omega arith, λ e. omega arith, λ e. omega arith, λ e. omega arith)
letter_apart Int = (λ e. omega arith, λ e. omega arith, λ e. omega arith, λ e. omega arith)
letter_apart Long = (λ e. omega arith, λ e. omega arith, λ e. omega arith, λ e. omega arith)
letter_apart Short = (λ e. omega arith, λ e. omega arith, λ e. omega arith, λ e. omega arith)
letter_apart Boolean = (λ e. omega arith, λ e. omega arith, λ e. omega arith, λ e. omega arith)

-- ---- names

one_name : (a b r s : List ℕ) → AllByRecursion IsNameByte a → AllByRecursion IsNameByte b → a ++ 59 ∷ r ≡ b ++ 59 ∷ s → (a ≡ b) × (r ≡ s)
one_name [] [] r s ha hb e = (refl, same_tail 59 59 r s e)
one_name [] (y ∷ b) r s ha hb e = absurd (hb.0.1 (sym (same_head 59 y r (b ++ 59 ∷ s) e)))
one_name (x ∷ a) [] r s ha hb e = absurd (ha.0.1 (same_head x 59 (a ++ 59 ∷ r) s e))
one_name (x ∷ a) (y ∷ b) r s ha hb e =
    let head = same_head x y (a ++ 59 ∷ r) (b ++ 59 ∷ s) e in
    let rest = one_name a b r s ha.1 hb.1 (same_tail x y (a ++ 59 ∷ r) (b ++ 59 ∷ s) e) in
    (ap (λ n. n ∷ a) head ∙ ap (λ l. y ∷ l) rest.0, rest.1)

-- ---- types

-- the front of a text is the descriptor of one type
pub one_front : (t u : FieldType) (r s : List ℕ) → HasName t → HasName u → descriptor t ++ r ≡ descriptor u ++ s → (t ≡ u) × (r ≡ s)
one_front (Base b) (Base c) r s ht hu e =
    (ap Base (one_letter b c (same_head (letter b) (letter c) r s e)), same_tail (letter b) (letter c) r s e)
one_front (Base b) (Object n) r s ht hu e =
    absurd ((letter_apart b).1 (same_head (letter b) 76 r ((n ++ 59 ∷ []) ++ s) e))
one_front (Base b) (Array u) r s ht hu e =
    absurd ((letter_apart b).3 (same_head (letter b) 91 r (descriptor u ++ s) e))
one_front (Object m) (Base c) r s ht hu e =
    absurd ((letter_apart c).1 (sym (same_head 76 (letter c) ((m ++ 59 ∷ []) ++ r) s e)))
one_front (Object m) (Object n) r s ht hu e =
    let rest : (m ++ 59 ∷ []) ++ r ≡ (n ++ 59 ∷ []) ++ s = same_tail 76 76 ((m ++ 59 ∷ []) ++ r) ((n ++ 59 ∷ []) ++ s) e in
    let split = one_name m n r s (recursion_from_All IsNameByte m ht.1) (recursion_from_All IsNameByte n hu.1) (sym (append_assoc m (59 ∷ []) r) ∙ rest ∙ append_assoc n (59 ∷ []) s) in
    (ap Object split.0, split.1)
one_front (Object m) (Array u) r s ht hu e =
    let f : ◌≡◌ {A = ℕ} 76 91 = same_head 76 91 ((m ++ 59 ∷ []) ++ r) (descriptor u ++ s) e in absurd (omega arith)
one_front (Array t) (Base c) r s ht hu e =
    absurd ((letter_apart c).3 (sym (same_head 91 (letter c) (descriptor t ++ r) s e)))
one_front (Array t) (Object n) r s ht hu e =
    let f : ◌≡◌ {A = ℕ} 91 76 = same_head 91 76 (descriptor t ++ r) ((n ++ 59 ∷ []) ++ s) e in absurd (omega arith)
one_front (Array t) (Array u) r s ht hu e =
    let rest = one_front t u r s ht hu (same_tail 91 91 (descriptor t ++ r) (descriptor u ++ s) e) in
    (ap Array rest.0, rest.1)

pub one_type : (text : List ℕ) (t u : FieldType) → SpellsField text t → SpellsField text u → t ≡ u
one_type text t u ht hu =
    (one_front t u [] [] ht.0.named hu.0.named (append-nil (descriptor t) ∙ sym ht.1 ∙ hu.1 ∙ sym (append-nil (descriptor u)))).0

-- a type's descriptor begins neither with `)` nor with `V`
type_apart : (t : FieldType) (r s : List ℕ) → (descriptor t ++ r ≡ 41 ∷ s → ⊥) × (descriptor t ++ r ≡ 86 ∷ s → ⊥)
type_apart (Base b) r s = (λ e. (letter_apart b).0 (same_head (letter b) 41 r s e), λ e. (letter_apart b).2 (same_head (letter b) 86 r s e))
type_apart (Object n) r s = (
  λ e. let f : ◌≡◌ {A = ℕ} 76 41 = same_head 76 41 ((n ++ 59 ∷ []) ++ r) s e in absurd (omega arith),
  λ e. let f : ◌≡◌ {A = ℕ} 76 86 = same_head 76 86 ((n ++ 59 ∷ []) ++ r) s e in absurd (omega arith),
)
type_apart (Array t) r s = (
  λ e. let f : ◌≡◌ {A = ℕ} 91 41 = same_head 91 41 (descriptor t ++ r) s e in absurd (omega arith),
  λ e. let f : ◌≡◌ {A = ℕ} 91 86 = same_head 91 86 (descriptor t ++ r) s e in absurd (omega arith),
)

-- ---- methods

one_params : (a b : List FieldType) (r s : List ℕ) → AllByRecursion IsFieldType a → AllByRecursion IsFieldType b → flat_map descriptor a ++ 41 ∷ r ≡ flat_map descriptor b ++ 41 ∷ s → (a ≡ b) × (r ≡ s)
one_params [] [] r s ha hb e = (refl, same_tail 41 41 r s e)
one_params [] (u ∷ b) r s ha hb e =
    absurd ((type_apart u (flat_map descriptor b ++ 41 ∷ s) r).0 (sym (append_assoc (descriptor u) (flat_map descriptor b) (41 ∷ s)) ∙ sym e))
one_params (t ∷ a) [] r s ha hb e =
    absurd ((type_apart t (flat_map descriptor a ++ 41 ∷ r) s).0 (sym (append_assoc (descriptor t) (flat_map descriptor a) (41 ∷ r)) ∙ e))
one_params (t ∷ a) (u ∷ b) r s ha hb e =
    let front = one_front t u (flat_map descriptor a ++ 41 ∷ r) (flat_map descriptor b ++ 41 ∷ s) ha.0.named hb.0.named
    (sym (append_assoc (descriptor t) (flat_map descriptor a) (41 ∷ r)) ∙ e ∙ append_assoc (descriptor u) (flat_map descriptor b) (41 ∷ s)) in
    let rest = one_params a b r s ha.1 hb.1 front.1 in
    (ap (λ x. x ∷ a) front.0 ∙ ap (λ l. u ∷ l) rest.0, rest.1)

one_result : (a b : Option FieldType) → IfSome a IsFieldType → IfSome b IsFieldType → return_descriptor a ≡ return_descriptor b → a ≡ b
one_result None None ha hb e = refl
one_result None (Some u) ha hb e = absurd ((type_apart u [] []).1 (append-nil (descriptor u) ∙ sym e))
one_result (Some t) None ha hb e = absurd ((type_apart t [] []).1 (append-nil (descriptor t) ∙ e))
one_result (Some t) (Some u) ha hb e = ap Some (one_type (descriptor t) t u (ha, refl) (hb, e))

abbrev types_of : List FieldType → Option FieldType → MethodTypes
types_of params result = record { params = params; result = result }

pub one_method : (text : List ℕ) (m n : MethodTypes) → SpellsMethod text m → SpellsMethod text n → m ≡ n
one_method text m n hm hn =
    let whole = same_tail 40 40 (flat_map descriptor m.params ++ 41 ∷ return_descriptor m.result) (flat_map descriptor n.params ++ 41 ∷ return_descriptor n.result) (sym hm.1 ∙ hn.1) in
    let params = one_params m.params n.params (return_descriptor m.result) (return_descriptor n.result) hm.0.params hn.0.params whole in
    let result = one_result m.result n.result hm.0.result hn.0.result params.1 in
    ap (λ (l : List FieldType). types_of l m.result) params.0 ∙ ap (λ (o : Option FieldType). types_of n.params o) result
