-- The parameters of a method's descriptor and what it answers, from the left.
use Rattle.std.proofs.Common.{◌≡◌, ◌≢◌, ℕ, List, [], ◌∷◌, ◌++◌, Option, Some, None, false, refl}
use Rattle.std.proofs.Common.{sym, ap, ◌∙◌, arith, append_assoc}
use Rattle.std.specs.Prelude.{IfSome}
use Rattle.std.specs.Option.{option_map}
use Rattle.std.specs.List.{flat_map, AllByRecursion}
use Rattle.std.proofs.lemmas.List.{append-nil}
use Rattle.je_base.specs.Text.{is_same_text}
use Rattle.je_desc.specs.FieldType.{FieldType, Base, Object, Array, HasName, IsFieldType}
use Rattle.je_desc.specs.FieldType.{descriptor}
use Rattle.je_desc.specs.FieldType as types
use Rattle.je_desc.specs.Descriptor.{MethodTypes, return_descriptor}
use Rattle.je_value.specs.Reading.{type_at, answer_at, after_params, IsMethodRest, IsLeft}
use Rattle.je_value.proofs.ReadingLemmas.{type_again}

-- ---- what is answered

not_void : (t : FieldType) → is_same_text (descriptor t) (86 ∷ []) ≡ false
not_void (Base types.Byte) = refl
not_void (Base types.Char) = refl
not_void (Base types.Double) = refl
not_void (Base types.Float) = refl
not_void (Base types.Int) = refl
not_void (Base types.Long) = refl
not_void (Base types.Short) = refl
not_void (Base types.Boolean) = refl
not_void (Object name) = refl
not_void (Array component) = refl

type_alone : (t : FieldType) → HasName t → type_at (descriptor t) ≡ Some (t, [])
type_alone t named = ap type_at (sym (append-nil (descriptor t))) ∙ type_again t [] named

answer_again : (r : Option FieldType) → IfSome r IsFieldType
    → answer_at (return_descriptor r) ≡ Some r
answer_again None is = refl
answer_again (Some t) is = rw (not_void t) (ap (option_map (λ p. Some p.0)) (type_alone t is.named))

-- ---- parameters

no_type : (t : FieldType) (rest x : List ℕ) → 41 ∷ rest ≡ descriptor t ++ x → ⊥
no_type (Base types.Byte) rest x whole = let e : ◌≡◌ {A = ℕ} 41 66 = cc in omega arith
no_type (Base types.Char) rest x whole = let e : ◌≡◌ {A = ℕ} 41 67 = cc in omega arith
no_type (Base types.Double) rest x whole = let e : ◌≡◌ {A = ℕ} 41 68 = cc in omega arith
no_type (Base types.Float) rest x whole = let e : ◌≡◌ {A = ℕ} 41 70 = cc in omega arith
no_type (Base types.Int) rest x whole = let e : ◌≡◌ {A = ℕ} 41 73 = cc in omega arith
no_type (Base types.Long) rest x whole = let e : ◌≡◌ {A = ℕ} 41 74 = cc in omega arith
no_type (Base types.Short) rest x whole = let e : ◌≡◌ {A = ℕ} 41 83 = cc in omega arith
no_type (Base types.Boolean) rest x whole = let e : ◌≡◌ {A = ℕ} 41 90 = cc in omega arith
no_type (Object name) rest x whole = let e : ◌≡◌ {A = ℕ} 41 76 = cc in omega arith
no_type (Array component) rest x whole = let e : ◌≡◌ {A = ℕ} 41 91 = cc in omega arith

-- the bytes of the first parameter, and then the others
regrouped : (t : FieldType) (ps : List FieldType) (r : Option FieldType)
    → after_params (t ∷ ps) r ≡ descriptor t ++ after_params ps r
regrouped t ps r = append_assoc (descriptor t) (flat_map descriptor ps) (41 ∷ return_descriptor r)

at_end : (ps : List FieldType) (r : Option FieldType) (rest : List ℕ)
    → 41 ∷ rest ≡ after_params ps r → (ps ≡ []) × (rest ≡ return_descriptor r)
at_end [] r rest e = (refl, cc)
at_end (t ∷ ps) r rest e = absurd (no_type t rest (after_params ps r) (e ∙ regrouped t ps r))

-- a parameter is left, and stands at the front
pub record Goes (m : MethodTypes) (read : List FieldType) (bytes : List ℕ) : Type 0 where
  pub first : FieldType
  pub params : List FieldType
  pub joined : m.params ≡ read ++ first ∷ params
  pub types : AllByRecursion IsFieldType params
  pub front : type_at bytes ≡ Some (first, after_params params m.result)

goes_on : (m : MethodTypes) (read ps : List FieldType) (bytes : List ℕ) (first : ℕ) (rest : List ℕ)
    → bytes ≡ first ∷ rest → first ≢ 41
    → m.params ≡ read ++ ps → AllByRecursion IsFieldType ps → bytes ≡ after_params ps m.result
    → Goes m read bytes
goes_on m read [] bytes first rest split more joined types whole =
    let e : first ≡ 41 = cc in absurd (more e)
goes_on m read (p ∷ ps) bytes first rest split more joined types whole = record {
  first = p;
  params = ps;
  joined = joined;
  types = types.1;
  front =
      ap type_at (whole ∙ regrouped p ps m.result)
      ∙ type_again p (after_params ps m.result) types.0.named;
}

module _
    (m : MethodTypes) (read : List FieldType) (bytes : List ℕ) (first : ℕ) (rest : List ℕ)
    (split : bytes ≡ first ∷ rest) (left : IsLeft m read bytes) where
  pub goes : first ≢ 41 → Goes m read bytes
  goes more =
      goes_on m read left.params bytes first rest split more left.joined left.types left.whole

  -- the parameters end with `)`
  ended : first ≡ 41 → (left.params ≡ []) × (rest ≡ return_descriptor m.result)
  ended ends =
      at_end left.params m.result rest
      (ap (λ b. b ∷ rest) (sym ends) ∙ sym split ∙ left.whole)

  pub all_read : first ≡ 41 → read ≡ m.params
  all_read ends = sym (left.joined ∙ ap (λ ps. read ++ ps) (ended ends).0 ∙ append-nil read)

  pub answered : first ≡ 41 → IfSome m.result IsFieldType → answer_at rest ≡ Some m.result
  answered ends is = ap answer_at (ended ends).1 ∙ answer_again m.result is

pub step : (m : MethodTypes) (read : List FieldType) (bytes behind : List ℕ) (t : FieldType)
    → Goes m read bytes → type_at bytes ≡ Some (t, behind)
    → IsLeft m (read ++ t ∷ []) behind
step m read bytes behind t g e =
    let after = after_params g.params m.result in
    let pair : ◌≡◌ {A = FieldType × List ℕ} (t, behind) (g.first, after) = cc (e, g.front) in
    let same : t ≡ g.first = ap (λ p. p.0) pair in
    record {
      params = g.params;
      joined = rw same (g.joined ∙ sym (append_assoc read (g.first ∷ []) g.params));
      types = g.types;
      whole = ap (λ p. p.1) pair;
    }

pub start : (m : MethodTypes) (bytes : List ℕ) → IsMethodRest m bytes → IsLeft m [] bytes
start m bytes r = record { params = m.params; joined = refl; types = r.params; whole = r.whole }

pub no_more : (m : MethodTypes) (read : List FieldType) (bytes : List ℕ) → bytes ≡ []
    → IsLeft m read bytes → ⊥
no_more m read bytes none left = nothing left.params m.result (sym none ∙ left.whole)
  where
    nothing : (ps : List FieldType) (r : Option FieldType) → [] ≡ after_params ps r → ⊥
    nothing [] r e = cc
    nothing (p ∷ ps) r e = no_front p (after_params ps r) (e ∙ regrouped p ps r)
      where
        no_front : (t : FieldType) (x : List ℕ) → [] ≡ descriptor t ++ x → ⊥
        no_front (Base b) x e = cc
        no_front (Object name) x e = cc
        no_front (Array component) x e = cc

-- types of equal parts are equal
pub same_types : (a m : MethodTypes) → a.params ≡ m.params → a.result ≡ m.result → a ≡ m
same_types a m p q = λ i. record { params = p i; result = q i }
