-- The parameters of a method descriptor, from the left.
use Rattle.std.proofs.Common.{◌≡◌, ◌≢◌, ℕ, ◌+◌, ◌<◌, List, [], ◌∷◌, ◌++◌, length, refl, sym, ap, ◌∙◌, arith, append_assoc, length-append}
use Rattle.std.specs.List.{flat_map, sum_by, AllByRecursion}
use Rattle.std.proofs.lemmas.List.Sums.{sum_by-cons}
use Rattle.je_desc.specs.FieldType.{FieldType, Base, Object, Array, IsFieldType, letter, descriptor}
use Rattle.je_desc.specs.Descriptor.{units_of}
use Rattle.je_desc.specs.Front.{FieldFront, ParamsFront}
use Rattle.je_desc.proofs.FieldFronts.{letter_apart}

-- no type's descriptor begins with `)`
no_type : (type : FieldType) (rest x : List ℕ) → 41 ∷ rest ≡ descriptor type ++ x → ⊥
no_type (Base b) rest x whole =
    let e : 41 ≡ letter b = cc in absurd ((letter_apart b).0 (sym e))
no_type (Object name) rest x whole =
    let e : ◌≡◌ {A = ℕ} 41 76 = cc in omega arith
no_type (Array component) rest x whole =
    let e : ◌≡◌ {A = ℕ} 41 91 = cc in omega arith

-- a parameter more, and what comes after it
pub record Goes (bytes : List ℕ) (m : ℕ) (x : List ℕ) : Type 0 where
  pub type : FieldType
  pub is_type : IsFieldType type
  pub after : List ℕ
  pub whole : bytes ≡ descriptor type ++ after
  pub n : ℕ
  pub units : m ≡ units_of type + n
  pub front : ParamsFront after n x

goes_on : (params : List FieldType) (bytes : List ℕ) (first : ℕ) (rest : List ℕ) (m : ℕ) (x : List ℕ) → bytes ≡ first ∷ rest → first ≢ 41 → AllByRecursion IsFieldType params → m ≡ sum_by units_of params → bytes ≡ flat_map descriptor params ++ 41 ∷ x → Goes bytes m x
goes_on [] bytes first rest m x split more types units whole =
    let e : first ≡ 41 = cc in absurd (more e)
goes_on (t ∷ params) bytes first rest m x split more types units whole = record {
  type = t;
  is_type = types.0;
  after = flat_map descriptor params ++ 41 ∷ x;
  whole = whole ∙ append_assoc (descriptor t) (flat_map descriptor params) (41 ∷ x);
  n = sum_by units_of params;
  units = units ∙ sum_by-cons units_of t params;
  front = record { params = params; types = types.1; units = refl; whole = refl };
}

-- no parameters and no `)` stand at the front of nothing
pub no_params : (bytes : List ℕ) (m : ℕ) (x : List ℕ) → length bytes < 1 → ParamsFront bytes m x → ⊥
no_params bytes m x none front = omega (arith, simp length-append at (ap length front.whole))

at_end : (params : List FieldType) (rest : List ℕ) (m : ℕ) (x : List ℕ) → m ≡ sum_by units_of params → 41 ∷ rest ≡ flat_map descriptor params ++ 41 ∷ x → (m ≡ 0) × (rest ≡ x)
at_end [] rest m x units whole = (units, cc)
at_end (t ∷ params) rest m x units whole =
    absurd (no_type t rest (flat_map descriptor params ++ 41 ∷ x) (whole ∙ append_assoc (descriptor t) (flat_map descriptor params) (41 ∷ x)))

module _ (bytes : List ℕ) (first : ℕ) (rest : List ℕ) (whole : bytes ≡ first ∷ rest) where
  pub end_front : first ≡ 41 → ParamsFront bytes 0 rest
  end_front ends = record { params = []; types = tt; units = refl; whole = whole ∙ ap (λ b. b ∷ rest) ends }

  pub end_leaves : (m : ℕ) (x : List ℕ) → first ≡ 41 → ParamsFront bytes m x → (m ≡ 0) × (rest ≡ x)
  end_leaves m x ends front =
      at_end front.params rest m x front.units (ap (λ b. b ∷ rest) (sym ends) ∙ sym whole ∙ front.whole)

  pub more_leaves : (m : ℕ) (x : List ℕ) → first ≢ 41 → ParamsFront bytes m x → Goes bytes m x
  more_leaves m x more front = goes_on front.params bytes first rest m x whole more front.types front.units front.whole

pub front_of-goes : (bytes : List ℕ) (m : ℕ) (x : List ℕ) (goes : Goes bytes m x) → FieldFront 0 bytes goes.after
front_of-goes bytes m x goes =
    record { type = goes.type; named = goes.is_type.named; within = omega (arith, goes.is_type.within); whole = goes.whole }

-- past one parameter, whose units the first byte tells
module _ (bytes : List ℕ) (first : ℕ) (rest next : List ℕ) (w : ℕ) (split : bytes ≡ first ∷ rest) (width : (t : FieldType) (x y : List ℕ) → first ∷ x ≡ descriptor t ++ y → w ≡ units_of t) where
  pub step_front : FieldFront 0 bytes next → (n : ℕ) (x : List ℕ) → ParamsFront next n x → ParamsFront bytes (w + n) x
  step_front field n x front = record {
    params = field.type ∷ front.params;
    types = (record { named = field.named; within = omega (arith, field.within) }, front.types);
    units =
        rw (width field.type rest next (sym split ∙ field.whole)) (ap (λ k. units_of field.type + k) front.units ∙ sym (sum_by-cons units_of field.type front.params));
    whole =
        field.whole ∙ ap (λ s. descriptor field.type ++ s) front.whole ∙ sym (append_assoc (descriptor field.type) (flat_map descriptor front.params) (41 ∷ x));
  }

  pub step_leaves : first ≢ 41 → ((y : List ℕ) → FieldFront 0 bytes y → next ≡ y) → (m : ℕ) (x : List ℕ) → ParamsFront bytes m x → (n : ℕ) × (m ≡ w + n) × ParamsFront next n x
  step_leaves more only m x front =
      let goes = more_leaves bytes first rest split m x more front in
      let one = width goes.type rest goes.after (sym split ∙ goes.whole) in
      let same = only goes.after (front_of-goes bytes m x goes) in
      (goes.n, omega (arith, one, goes.units), rw same goes.front)
