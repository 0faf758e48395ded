-- What the summary of a class file has is fit.
use Rattle.std.proofs.Common.{◌≡◌, ℕ, zero, suc, List, [], ◌∷◌, Option, Some, None, Ok, Err, refl, sym, subst, inl, inr, arith}
use Rattle.std.proofs.lemmas.List.Elements.{All-from_recursion, recursion_from_All}
use Rattle.std.specs.Prelude.{All, IsSomeAnd, IfSome, IfOk, Result, option_and_then, slice_get}
use Rattle.std.specs.List.{AllByRecursion, AllZip}
use Rattle.je_consts.specs.declared.constant.Const.{Const}
use Rattle.je_consts.specs.declared.constant.Const.TheVariants as entry
use Rattle.je_consts.specs.declared.place.Place.{Place}
use Rattle.je_consts.specs.declared.place.Place.TheVariants.{Entry, Second}
use Rattle.je_consts.specs.Pool.{entry_of, const_at, text_of, text_at, class_of, class_at, Fits, OfEntry, IsPool}
use Rattle.je_desc.specs.declared.summary.MemberSig.{MemberSig}
use Rattle.je_desc.specs.declared.summary.Summary.{Summary}
use Rattle.je_desc.specs.Descriptor.{FieldDescriptor, IsDescriptorOf}
use Rattle.je_desc.specs.Fit.{IsShort, IsFitName, IsFitMember, IsFitField, IsFitMethod, IsFit}
use Rattle.je_desc.specs.Names.{IsClassName}
use Rattle.je_class.specs.declared.member.Member.{Member}
use Rattle.je_class.specs.Class.{Class, IsClassIndex}
use Rattle.je_class.specs.FileParts.{IsSound}
use Rattle.je_class.specs.Sound.{IsSoundInterface, IsSoundMember, IsSoundField, IsSoundMethod, HasSoundParts}
use Rattle.je_class.specs.Summed.{IsSuperName, IsNameAt, IsSignature, IsSummary}
use Rattle.je_class.proofs.SoundParts.{HasSoundParts-sound}

some_and : {A : Type 0} (P : A → Type 0) (o : Option A) (x : A) → o ≡ Some x → IsSomeAnd o P → P x
some_and P (Some y) x e h = let same : y ≡ x = cc in subst P same h
some_and P None x e h = absurd h

-- ---- the lengths of texts

fits_at : (places : List Place) (i : ℕ) (c : Const) → AllByRecursion (OfEntry Fits) places → option_and_then entry_of (slice_get places i) ≡ Some c → Fits c
fits_at [] i c all e = absurd cc
fits_at (Entry d ∷ places) zero c all e = let same : d ≡ c = cc in subst Fits same all.0
fits_at (Second ∷ places) zero c all e = absurd cc
fits_at (Entry d ∷ places) (suc i) c all e = fits_at places i c all.1 e
fits_at (Second ∷ places) (suc i) c all e = fits_at places i c all.1 e

short_of : (o : Option Const) (t : List ℕ) → ((c : Const) → o ≡ Some c → Fits c) → option_and_then text_of o ≡ Some t → IsShort t
short_of None t fits e = absurd cc
short_of (Some (entry.Utf8 s)) t fits e =
    let f = fits (entry.Utf8 s) refl in
    let same : s ≡ t = cc in
    subst IsShort same (omega (arith, f.0))
short_of (Some _) t fits e = absurd cc

module _ (places : List Place) (pool : IsPool places) where
  const_fits : (i : ℕ) (c : Const) → const_at places i ≡ Some c → Fits c
  const_fits zero c e = absurd cc
  const_fits (suc i) c e = fits_at places i c pool.fits e

  text_short : (i : ℕ) (t : List ℕ) → text_at places i ≡ Some t → IsShort t
  text_short i t e = short_of (const_at places i) t (const_fits i) e

  class_short_of : (c : Const) (t : List ℕ) → class_of places c ≡ Some t → IsShort t
  class_short_of (entry.Class n) t e = text_short n t e
  class_short_of _ t e = absurd cc

  class_short_by : (o : Option Const) (t : List ℕ) → option_and_then (class_of places) o ≡ Some t → IsShort t
  class_short_by None t e = absurd cc
  class_short_by (Some c) t e = class_short_of c t e

  fit_name : (i : ℕ) (t : List ℕ) → class_at places i ≡ Some t → IsClassIndex places i → IsFitName t
  fit_name i t e h = record { class_name = some_and IsClassName (class_at places i) t e h; short = class_short_by (const_at places i) t e }

  fit_member : (P : List ℕ → Type 0) (m : Member) (sig : MemberSig) → IsSoundMember P places m → IsSignature places m sig → IsFitMember P sig
  fit_member P m sig sound is = record {
    descriptor = some_and P (text_at places m.descriptor) sig.descriptor is.descriptor sound.descriptor;
    name_short = text_short m.name sig.name is.name;
    descriptor_short = text_short m.descriptor sig.descriptor is.descriptor;
  }

  fit_method : (m : Member) (sig : MemberSig) → IsSoundMethod places m → IsSignature places m sig → IsFitMethod sig
  fit_method m sig sound is =
      subst (λ (access : ℕ). IsFitMember (IsDescriptorOf access) sig) (sym is.access) (fit_member (IsDescriptorOf m.access) m sig sound is)

zip_gives : {A B : Type 0} (P : A → Type 0) (R : A → B → Type 0) (Q : B → Type 0) → ((x : A) (y : B) → P x → R x y → Q y) → (xs : List A) (ys : List B) → AllByRecursion P xs → AllZip R xs ys → AllByRecursion Q ys
zip_gives P R Q gives [] [] h z = tt
zip_gives P R Q gives [] (y ∷ ys) h z = absurd z
zip_gives P R Q gives (x ∷ xs) [] h z = absurd z
zip_gives P R Q gives (x ∷ xs) (y ∷ ys) h z = (gives x y h.0 z.0, zip_gives P R Q gives xs ys h.1 z.1)

all_zip : {A B : Type 0} (P : A → Type 0) (R : A → B → Type 0) (Q : B → Type 0) → ((x : A) (y : B) → P x → R x y → Q y) → (xs : List A) (ys : List B) → All P xs → AllZip R xs ys → All Q ys
all_zip P R Q gives xs ys h z = All-from_recursion Q ys (zip_gives P R Q gives xs ys (recursion_from_All P xs h) z)

fit_super : (c : Class) → HasSoundParts c → (name : Option (List ℕ)) → IsSuperName c name → IfSome name IsFitName
fit_super c parts None is = tt
fit_super c parts (Some name) is = elim parts.super_class [
  | inl zero_is ↦ absurd (is.0 zero_is)
  | inr class ↦ fit_name c.consts parts.consts c.super_class name is.1 class
]

IsFit-summary : (c : Class) (s : Summary) → IsSound c → IsSummary c s → IsFit s
IsFit-summary c s sound is =
    let parts = HasSoundParts-sound c sound in
    let consts = c.consts in
    let pool = parts.consts in
    record {
      name = fit_name consts pool c.this_class s.name is.name parts.this_class;
      super_name = fit_super c parts s.super_name is.super_name;
      interfaces = all_zip (IsSoundInterface consts) (IsNameAt consts) IsFitName (λ i t h e. fit_name consts pool i t e h.class) c.interfaces s.interfaces parts.interfaces is.interfaces;
      fields = all_zip (IsSoundField consts) (IsSignature consts) IsFitField (λ m sig h e. fit_member consts pool FieldDescriptor m sig h e) c.fields s.fields parts.fields is.fields;
      methods = all_zip (IsSoundMethod consts) (IsSignature consts) IsFitMethod (fit_method consts pool) c.methods s.methods parts.methods is.methods;
    }

pub fit_result : {E : Type 0} (c : Class) (result : Result Summary E) → IsSound c → IfOk result (IsSummary c) → IfOk result IsFit
fit_result c (Ok s) sound is = IsFit-summary c s sound is
fit_result c (Err e) sound is = tt
