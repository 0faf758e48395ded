-- The parameters of a method's descriptor and what it answers, from the left.
use Rattle.std.proofs.Common.{◌≡◌, ◌≢◌, ℕ, List, [], ◌∷◌, ◌++◌, Option, Some, None, map, refl, sym, ap, subst, ◌∙◌, arith, append_assoc}
use Rattle.std.specs.Prelude.{IfSome}
use Rattle.std.specs.List.{flat_map, AllByRecursion}
use Rattle.std.proofs.lemmas.List.{append-nil, map-append}
use Rattle.je_desc.specs.declared.types.JType.{JType}
use Rattle.je_desc.specs.Types.{field_type_of}
use Rattle.je_desc.specs.FieldType.{FieldType, Base, Object, Array, IsFieldType, letter, descriptor}
use Rattle.je_desc.specs.Descriptor.{MethodTypes, return_descriptor}
use Rattle.je_type.specs.Reading.{IsFront, after_params, IsLeft}
use Rattle.je_type.specs.Texts.{HasText}
use Rattle.je_type.proofs.FrontLemmas.{letter_apart}

-- ---- what is answered

not_void : (t : FieldType) → descriptor t ≡ 86 ∷ [] → ⊥
not_void (Base base) e = let f : letter base ≡ 86 = cc in (letter_apart base).3 f
not_void (Object name) e = let f : ◌≡◌ {A = ℕ} 76 86 = cc in omega arith
not_void (Array component) e = let f : ◌≡◌ {A = ℕ} 91 86 = cc in omega arith

pub void_is : (bytes : List ℕ) (r : Option FieldType) → bytes ≡ 86 ∷ [] → bytes ≡ return_descriptor r → None ≡ r
void_is bytes None void whole = refl
void_is bytes (Some t) void whole = absurd (not_void t (sym whole ∙ void))

-- the type of what is answered stands at the front
pub record IsAnswer (r : Option FieldType) (bytes : List ℕ) : Type 0 where
  pub type : FieldType
  pub is : r ≡ Some type
  pub front : IsFront type [] bytes

pub answer_is : (bytes : List ℕ) (r : Option FieldType) → (bytes ≡ 86 ∷ [] → ⊥) → IfSome r IsFieldType
    → bytes ≡ return_descriptor r → IsAnswer r bytes
answer_is bytes None other is whole = absurd (other whole)
answer_is bytes (Some t) other is whole = record {
  type = t;
  is = refl;
  front = record { named = is.named; whole = whole ∙ sym (append-nil (descriptor t)) };
}

-- ---- parameters

no_type : (t : FieldType) (rest x : List ℕ) → 41 ∷ rest ≡ descriptor t ++ x → ⊥
no_type (Base base) rest x whole = let f : letter base ≡ 41 = cc in (letter_apart base).0 f
no_type (Object name) rest x whole = let e : ◌≡◌ {A = ℕ} 41 76 = cc in omega arith
no_type (Array component) rest x whole = let e : ◌≡◌ {A = ℕ} 41 91 = cc in omega arith

-- the bytes of the first parameter, and then the others
regrouped : (t : FieldType) (ps : List FieldType) (r : Option FieldType)
    → after_params (t ∷ ps) r ≡ descriptor t ++ after_params ps r
regrouped t ps r = append_assoc (descriptor t) (flat_map descriptor ps) (41 ∷ return_descriptor r)

at_end : (ps : List FieldType) (r : Option FieldType) (rest : List ℕ)
    → 41 ∷ rest ≡ after_params ps r → (ps ≡ []) × (rest ≡ return_descriptor r)
at_end [] r rest e = (refl, cc)
at_end (t ∷ ps) r rest e = absurd (no_type t rest (after_params ps r) (e ∙ regrouped t ps r))

-- a parameter is left, and stands at the front
pub record Goes (m : MethodTypes) (read : List FieldType) (bytes : List ℕ) : Type 0 where
  pub first : FieldType
  pub params : List FieldType
  pub joined : m.params ≡ read ++ first ∷ params
  pub types : AllByRecursion IsFieldType params
  pub front : IsFront first (after_params params m.result) bytes

goes_on : (m : MethodTypes) (read ps : List FieldType) (bytes : List ℕ) (first : ℕ) (rest : List ℕ)
    → bytes ≡ first ∷ rest → first ≢ 41
    → m.params ≡ read ++ ps → AllByRecursion IsFieldType ps → bytes ≡ after_params ps m.result
    → Goes m read bytes
goes_on m read [] bytes first rest split more joined types whole =
    let e : first ≡ 41 = cc in absurd (more e)
goes_on m read (p ∷ ps) bytes first rest split more joined types whole = record {
  first = p;
  params = ps;
  joined = joined;
  types = types.1;
  front = record { named = types.0.named; whole = whole ∙ regrouped p ps m.result };
}

module _
    (m : MethodTypes) (read : List FieldType) (bytes : List ℕ) (first : ℕ) (rest : List ℕ)
    (split : bytes ≡ first ∷ rest) (left : IsLeft m read bytes) where
  pub goes : first ≢ 41 → Goes m read bytes
  goes more =
      goes_on m read left.params bytes first rest split more left.joined left.types left.whole

  -- the parameters end with `)`
  ended : first ≡ 41 → (left.params ≡ []) × (rest ≡ return_descriptor m.result)
  ended ends =
      at_end left.params m.result rest
      (ap (λ b. b ∷ rest) (sym ends) ∙ sym split ∙ left.whole)

  pub all_read : first ≡ 41 → read ≡ m.params
  all_read ends = sym (left.joined ∙ ap (λ ps. read ++ ps) (ended ends).0 ∙ append-nil read)

  pub answered : first ≡ 41 → rest ≡ return_descriptor m.result
  answered ends = (ended ends).1

-- one parameter more was read
pub step : (m : MethodTypes) (read : List FieldType) (bytes behind : List ℕ) (t : FieldType) (g : Goes m read bytes)
    → t ≡ g.first → behind ≡ after_params g.params m.result
    → IsLeft m (read ++ t ∷ []) behind
step m read bytes behind t g same whole = record {
  params = g.params;
  joined = rw same (g.joined ∙ sym (append_assoc read (g.first ∷ []) g.params));
  types = g.types;
  whole = whole;
}

pub pushed : (read new : List JType) (t : JType) → new ≡ read ++ t ∷ []
    → map field_type_of new ≡ map field_type_of read ++ field_type_of t ∷ []
pushed read new t e = ap (map field_type_of) e ∙ map-append field_type_of read (t ∷ [])

-- ---- texts

pub all_more : (read : List FieldType) (t : FieldType) → AllByRecursion HasText read → HasText t → AllByRecursion HasText (read ++ t ∷ [])
all_more [] t all is = (is, tt)
all_more (u ∷ read) t all is = (all.0, all_more read t all.1 is)

at_first : (read : List FieldType) (t : FieldType) (ps : List FieldType) → AllByRecursion HasText (read ++ t ∷ ps) → HasText t
at_first [] t ps all = all.0
at_first (u ∷ read) t ps all = at_first read t ps all.1

pub first_text : (m : MethodTypes) (read : List FieldType) (bytes : List ℕ) (g : Goes m read bytes)
    → AllByRecursion HasText m.params → HasText g.first
first_text m read bytes g all =
    at_first read g.first g.params (subst (AllByRecursion HasText) g.joined all)
