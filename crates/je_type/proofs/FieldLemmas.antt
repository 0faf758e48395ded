-- The type that a whole field descriptor spells, and what was read of it.
use Rattle.std.proofs.Common.{◌≡◌, ℕ, List, [], Option, Some, None, sym, ap, subst, ◌∙◌}
use Rattle.std.specs.Prelude.{Result, Ok, Err, IfOk, IfSome, IfNone, MatchOption}
use Rattle.std.proofs.lemmas.List.{append-nil}
use Rattle.je_base.specs.Text.{IsModifiedUtf8}
use Rattle.je_desc.specs.declared.types.JType.{JType}
use Rattle.je_desc.specs.FieldType.{FieldType, descriptor}
use Rattle.je_desc.specs.Descriptor.{FieldDescriptor, SpellsField}
use Rattle.je_desc.specs.Types.{field_type_of}
use Rattle.je_type.specs.Reading.{IsFront}
use Rattle.je_type.specs.Texts.{HasText}
use Rattle.je_type.proofs.TextLemmas.{field_form, field_text}
use Rattle.je_type.proofs.TypeLemmas.{one_type}

pub whole_front : (bytes : List ℕ) (t : FieldType) → SpellsField bytes t → IsFront t [] bytes
whole_front bytes t spelled =
    record { named = spelled.0.named; whole = spelled.1 ∙ sym (append-nil (descriptor t)) }

-- of each type at the front, this was read
abbrev pub IsReading : {E : Type 0} → List ℕ → Result (Option JType) E → Type 0
IsReading bytes r = (t : FieldType) (x : List ℕ) → IsFront t x bytes
    → IfOk r (λ found. MatchOption found (HasText t → ⊥) (λ u. field_type_of u ≡ t))

abbrev pub IsForm : {E : Type 0} → Result (Option JType) E → Type 0
IsForm r = IfOk r (λ found. IfSome found (λ u. HasText (field_type_of u)))

module _ {E : Type 0} (bytes : List ℕ) where
  pub field_found : (r : Result (Option JType) E) → FieldDescriptor bytes → IsReading bytes r
      → IfOk r (λ found. IfSome found (λ t. SpellsField bytes (field_type_of t)))
  field_found (Err e) spelled reads = tt
  field_found (Ok None) spelled reads = tt
  field_found (Ok (Some u)) spelled reads =
      subst (SpellsField bytes) (sym (reads spelled.0 [] (whole_front bytes spelled.0 spelled.1))) spelled.1

  pub form_found : (r : Result (Option JType) E) → FieldDescriptor bytes → IsReading bytes r → IsForm r
      → IfOk r (λ found. IfSome found (λ t. IsModifiedUtf8 bytes))
  form_found (Err e) spelled reads form = tt
  form_found (Ok None) spelled reads form = tt
  form_found (Ok (Some u)) spelled reads form =
      let same : field_type_of u ≡ spelled.0 = reads spelled.0 [] (whole_front bytes spelled.0 spelled.1) in
      subst IsModifiedUtf8 (ap descriptor same ∙ sym spelled.1.1) (field_form (field_type_of u) form)

  pub none_found : (r : Result (Option JType) E) → IsReading bytes r
      → IfOk r (λ found. IfNone found (IsModifiedUtf8 bytes → FieldDescriptor bytes → ⊥))
  none_found (Err e) reads = tt
  none_found (Ok (Some u)) reads = tt
  none_found (Ok None) reads = λ form spelled.
      reads spelled.0 [] (whole_front bytes spelled.0 spelled.1) (field_text spelled.0 (subst IsModifiedUtf8 spelled.1.1 form))

  pub only_found : (r : Result (Option JType) E) → IsReading bytes r → (t : JType) → SpellsField bytes (field_type_of t)
      → IsModifiedUtf8 bytes → IfOk r (λ found. found ≡ Some t)
  only_found (Err e) reads t spelled form = tt
  only_found (Ok None) reads t spelled form =
      absurd (reads (field_type_of t) [] (whole_front bytes (field_type_of t) spelled) (field_text (field_type_of t) (subst IsModifiedUtf8 spelled.1 form)))
  only_found (Ok (Some u)) reads t spelled form =
      ap {A = JType} (λ y. Some y) (one_type u t (reads (field_type_of t) [] (whole_front bytes (field_type_of t) spelled)))
