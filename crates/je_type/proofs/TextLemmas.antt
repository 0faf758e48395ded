-- Descriptors are in modified UTF-8 exactly where the names in them are.
use Rattle.std.proofs.Common.{◌≡◌, ℕ, List, [], ◌∷◌, ◌++◌, Option, Some, None, refl, sym, ap, subst, ◌∙◌, append_assoc, lit≤, arith}
use Rattle.std.specs.Prelude.{IfSome}
use Rattle.std.specs.List.{AllByRecursion, flat_map}
use Rattle.std.proofs.lemmas.Grind.{flat_map-append}
use Rattle.std.proofs.lemmas.List.{append-nil}
use Rattle.je_base.specs.Text.{IsSingle, IsUnit, IsModifiedUtf8}
use Rattle.je_desc.specs.FieldType.{BaseType, Byte, Char, Double, Float, Int, Long, Short, Boolean}
use Rattle.je_desc.specs.FieldType.{FieldType, Base, Object, Array, letter, descriptor}
use Rattle.je_desc.specs.Descriptor.{MethodTypes, return_descriptor, method_descriptor}
use Rattle.je_type.specs.Texts.{HasText, HaveTexts}

all_joined : (P : List ℕ → Type 0) (a b : List (List ℕ)) → AllByRecursion P a → AllByRecursion P b → AllByRecursion P (a ++ b)
all_joined P [] b h k = k
all_joined P (x ∷ a) b h k = (h.0, all_joined P a b h.1 k)

nothing : IsModifiedUtf8 []
nothing = ([], tt, refl)

unit_and : (u a : List ℕ) → IsUnit u → IsModifiedUtf8 a → IsModifiedUtf8 (u ++ a)
unit_and u a h k = (u ∷ k.0, (h, k.1), ap (λ (l : List ℕ). u ++ l) k.2)

single : (b : ℕ) → IsSingle b → IsModifiedUtf8 (b ∷ [])
single b h = unit_and (b ∷ []) [] h nothing

joined : (a b : List ℕ) → IsModifiedUtf8 a → IsModifiedUtf8 b → IsModifiedUtf8 (a ++ b)
joined a b h k = (
  h.0 ++ k.0,
  all_joined IsUnit h.0 k.0 h.1 k.1,
  ap (λ (l : List ℕ). l ++ b) h.2 ∙ ap (λ (l : List ℕ). flat_map (λ unit. unit) h.0 ++ l) k.2
      ∙ sym (flat_map-append (λ unit. unit) h.0 k.0),
)

-- ---- text that is cut at a byte that is a unit by itself

abbrev IsCut : List ℕ → List ℕ → Type 0
IsCut a b = IsModifiedUtf8 a × IsModifiedUtf8 b

-- a unit more before the cut
more : (u a b : List ℕ) → IsUnit u → IsCut a b → IsCut (u ++ a) b
more u a b h k = (unit_and u a h k.0, k.1)

cut_units : (units : List (List ℕ)) (a : List ℕ) (c : ℕ) (b : List ℕ) → IsSingle c → AllByRecursion IsUnit units
    → a ++ c ∷ b ≡ flat_map (λ unit. unit) units → IsCut a b
cut_units [] [] c b s all whole = absurd cc
cut_units [] (x ∷ a) c b s all whole = absurd cc
cut_units ([] ∷ units) a c b s all whole = absurd all.0
cut_units ((x ∷ []) ∷ units) [] c b s all whole = (nothing, (units, all.1, cc))
cut_units ((x ∷ []) ∷ units) (p ∷ a) c b s all whole =
    let e : p ≡ x = cc in
    let rest : a ++ c ∷ b ≡ flat_map (λ unit. unit) units = cc in
    subst (λ n. IsCut (n ∷ a) b) (sym e) (more (x ∷ []) a b all.0 (cut_units units a c b s all.1 rest))
cut_units ((x ∷ y ∷ []) ∷ units) [] c b s all whole = let e : c ≡ x = cc in absurd (omega arith)
cut_units ((x ∷ y ∷ []) ∷ units) (p ∷ []) c b s all whole = let e : c ≡ y = cc in absurd (omega arith)
cut_units ((x ∷ y ∷ []) ∷ units) (p ∷ q ∷ a) c b s all whole =
    let e : p ≡ x = cc in
    let f : q ≡ y = cc in
    let rest : a ++ c ∷ b ≡ flat_map (λ unit. unit) units = cc in
    subst (λ n. IsCut (n ∷ q ∷ a) b) (sym e)
    (subst (λ n. IsCut (x ∷ n ∷ a) b) (sym f) (more (x ∷ y ∷ []) a b all.0 (cut_units units a c b s all.1 rest)))
cut_units ((x ∷ y ∷ z ∷ []) ∷ units) [] c b s all whole = let e : c ≡ x = cc in absurd (omega arith)
cut_units ((x ∷ y ∷ z ∷ []) ∷ units) (p ∷ []) c b s all whole = let e : c ≡ y = cc in absurd (omega arith)
cut_units ((x ∷ y ∷ z ∷ []) ∷ units) (p ∷ q ∷ []) c b s all whole = let e : c ≡ z = cc in absurd (omega arith)
cut_units ((x ∷ y ∷ z ∷ []) ∷ units) (p ∷ q ∷ r ∷ a) c b s all whole =
    let e : p ≡ x = cc in
    let f : q ≡ y = cc in
    let g : r ≡ z = cc in
    let rest : a ++ c ∷ b ≡ flat_map (λ unit. unit) units = cc in
    subst (λ n. IsCut (n ∷ q ∷ r ∷ a) b) (sym e)
    (subst (λ n. IsCut (x ∷ n ∷ r ∷ a) b) (sym f)
    (subst (λ n. IsCut (x ∷ y ∷ n ∷ a) b) (sym g) (more (x ∷ y ∷ z ∷ []) a b all.0 (cut_units units a c b s all.1 rest))))
cut_units ((x ∷ y ∷ z ∷ w ∷ u) ∷ units) a c b s all whole = absurd all.0

cut : (a : List ℕ) (c : ℕ) (b : List ℕ) → IsSingle c → IsModifiedUtf8 (a ++ c ∷ b) → IsCut a b
cut a c b s h = cut_units h.0 a c b s h.1 h.2

-- what comes after such a byte
past : (c : ℕ) (b : List ℕ) → IsSingle c → IsModifiedUtf8 (c ∷ b) → IsModifiedUtf8 b
past c b s h = (cut [] c b s h).1

-- ---- descriptors of fields

letter_single : (base : BaseType) → IsSingle (letter base)
letter_single Byte = (lit≤ tt, lit≤ tt)
letter_single Char = (lit≤ tt, lit≤ tt)
letter_single Double = (lit≤ tt, lit≤ tt)
letter_single Float = (lit≤ tt, lit≤ tt)
letter_single Int = (lit≤ tt, lit≤ tt)
letter_single Long = (lit≤ tt, lit≤ tt)
letter_single Short = (lit≤ tt, lit≤ tt)
letter_single Boolean = (lit≤ tt, lit≤ tt)

pub field_form : (t : FieldType) → HasText t → IsModifiedUtf8 (descriptor t)
field_form (Base base) h = single (letter base) (letter_single base)
field_form (Object name) h =
    unit_and (76 ∷ []) (name ++ 59 ∷ []) (lit≤ tt, lit≤ tt) (joined name (59 ∷ []) h (single 59 (lit≤ tt, lit≤ tt)))
field_form (Array component) h = unit_and (91 ∷ []) (descriptor component) (lit≤ tt, lit≤ tt) (field_form component h)

pub front_text : (t : FieldType) (rest : List ℕ) → IsModifiedUtf8 (descriptor t ++ rest) → HasText t × IsModifiedUtf8 rest
front_text (Base base) rest h = (tt, past (letter base) rest (letter_single base) h)
front_text (Object name) rest h =
    let behind = past 76 ((name ++ 59 ∷ []) ++ rest) (lit≤ tt, lit≤ tt) h in
    cut name 59 rest (lit≤ tt, lit≤ tt) (subst IsModifiedUtf8 (append_assoc name (59 ∷ []) rest) behind)
front_text (Array component) rest h =
    front_text component rest (past 91 (descriptor component ++ rest) (lit≤ tt, lit≤ tt) h)

pub field_text : (t : FieldType) → IsModifiedUtf8 (descriptor t) → HasText t
field_text t h = (front_text t [] (subst IsModifiedUtf8 (sym (append-nil (descriptor t))) h)).0

-- ---- descriptors of methods

params_form : (params : List FieldType) → AllByRecursion HasText params → IsModifiedUtf8 (flat_map descriptor params)
params_form [] h = nothing
params_form (t ∷ params) h = joined (descriptor t) (flat_map descriptor params) (field_form t h.0) (params_form params h.1)

return_form : (r : Option FieldType) → IfSome r HasText → IsModifiedUtf8 (return_descriptor r)
return_form None h = single 86 (lit≤ tt, lit≤ tt)
return_form (Some t) h = field_form t h

pub method_form : (m : MethodTypes) → HaveTexts m → IsModifiedUtf8 (method_descriptor m)
method_form m h =
    unit_and (40 ∷ []) (flat_map descriptor m.params ++ 41 ∷ return_descriptor m.result) (lit≤ tt, lit≤ tt)
    (joined (flat_map descriptor m.params) (41 ∷ return_descriptor m.result) (params_form m.params h.params)
    (unit_and (41 ∷ []) (return_descriptor m.result) (lit≤ tt, lit≤ tt) (return_form m.result h.result)))

params_text : (params : List FieldType) (rest : List ℕ) → IsModifiedUtf8 (flat_map descriptor params ++ rest)
    → AllByRecursion HasText params × IsModifiedUtf8 rest
params_text [] rest h = (tt, h)
params_text (t ∷ params) rest h =
    let one = front_text t (flat_map descriptor params ++ rest) (subst IsModifiedUtf8 (append_assoc (descriptor t) (flat_map descriptor params) rest) h) in
    let others = params_text params rest one.1 in
    ((one.0, others.0), others.1)

return_text : (r : Option FieldType) → IsModifiedUtf8 (return_descriptor r) → IfSome r HasText
return_text None h = tt
return_text (Some t) h = field_text t h

pub method_texts : (m : MethodTypes) → IsModifiedUtf8 (method_descriptor m) → HaveTexts m
method_texts m h =
    let behind = past 40 (flat_map descriptor m.params ++ 41 ∷ return_descriptor m.result) (lit≤ tt, lit≤ tt) h in
    let all = params_text m.params (41 ∷ return_descriptor m.result) behind in
    record {
      params = all.0;
      result = return_text m.result (past 41 (return_descriptor m.result) (lit≤ tt, lit≤ tt) all.1);
    }
