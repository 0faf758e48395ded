-- The types that a whole method descriptor spells, and what was read of them.
use Rattle.std.proofs.Common.{◌≡◌, ℕ, List, ◌∷◌, Option, Some, None, sym, ap, subst, ◌∙◌}
use Rattle.std.specs.Prelude.{Result, Ok, Err, IfOk, IfSome, IfNone, MatchOption}
use Rattle.je_base.specs.Text.{IsModifiedUtf8}
use Rattle.je_desc.specs.declared.types.MethodType.{MethodType}
use Rattle.je_desc.specs.Descriptor.{MethodTypes, MethodDescriptor, SpellsMethod, method_descriptor}
use Rattle.je_desc.specs.Types.{method_types_of}
use Rattle.je_type.specs.Reading.{after_params, IsMethodRest}
use Rattle.je_type.specs.Texts.{HaveTexts}
use Rattle.je_type.proofs.TextLemmas.{method_form, method_texts}
use Rattle.je_type.proofs.TypeLemmas.{one_method}

-- types of equal parts are equal
pub same_types : (a m : MethodTypes) → a.params ≡ m.params → a.result ≡ m.result → a ≡ m
same_types a m p q = λ i. record { params = p i; result = q i }

-- of each method's types that the bytes spell, this was read
abbrev pub IsReading : {E : Type 0} → List ℕ → Result (Option MethodType) E → Type 0
IsReading rest r = (m : MethodTypes) → IsMethodRest m rest
    → IfOk r (λ found. MatchOption found (HaveTexts m → ⊥) (λ u. method_types_of u ≡ m))

abbrev pub IsForm : {E : Type 0} → Result (Option MethodType) E → Type 0
IsForm r = IfOk r (λ found. IfSome found (λ u. HaveTexts (method_types_of u)))

pub method_rest : (bytes : List ℕ) (first : ℕ) (rest : List ℕ) → bytes ≡ first ∷ rest → (m : MethodTypes) → SpellsMethod bytes m → IsMethodRest m rest
method_rest bytes first rest split m spelled =
    let whole : first ∷ rest ≡ 40 ∷ after_params m.params m.result = sym split ∙ spelled.1 in
    record { params = spelled.0.params; result = spelled.0.result; whole = cc }

module _ {E : Type 0} (bytes : List ℕ) (first : ℕ) (rest : List ℕ) (split : bytes ≡ first ∷ rest) where
  pub method_found : (r : Result (Option MethodType) E) (n : ℕ) → MethodDescriptor bytes n → IsReading rest r
      → IfOk r (λ found. IfSome found (λ u. SpellsMethod bytes (method_types_of u)))
  method_found (Err e) n spelled reads = tt
  method_found (Ok None) n spelled reads = tt
  method_found (Ok (Some u)) n spelled reads =
      subst (SpellsMethod bytes) (sym (reads spelled.0 (method_rest bytes first rest split spelled.0 spelled.1))) spelled.1

  pub form_found : (r : Result (Option MethodType) E) (n : ℕ) → MethodDescriptor bytes n → IsReading rest r → IsForm r
      → IfOk r (λ found. IfSome found (λ u. IsModifiedUtf8 bytes))
  form_found (Err e) n spelled reads form = tt
  form_found (Ok None) n spelled reads form = tt
  form_found (Ok (Some u)) n spelled reads form =
      let same : method_types_of u ≡ spelled.0 = reads spelled.0 (method_rest bytes first rest split spelled.0 spelled.1) in
      subst IsModifiedUtf8 (ap method_descriptor same ∙ sym spelled.1.1) (method_form (method_types_of u) form)

  pub none_found : (r : Result (Option MethodType) E) → IsReading rest r
      → IfOk r (λ found. IfNone found (IsModifiedUtf8 bytes → (n : ℕ) → MethodDescriptor bytes n → ⊥))
  none_found (Err e) reads = tt
  none_found (Ok (Some u)) reads = tt
  none_found (Ok None) reads = λ form n spelled.
      reads spelled.0 (method_rest bytes first rest split spelled.0 spelled.1) (method_texts spelled.0 (subst IsModifiedUtf8 spelled.1.1 form))

  pub only_found : (r : Result (Option MethodType) E) → IsReading rest r → (m : MethodType) → SpellsMethod bytes (method_types_of m)
      → IsModifiedUtf8 bytes → IfOk r (λ found. found ≡ Some m)
  only_found (Err e) reads m spelled form = tt
  only_found (Ok None) reads m spelled form =
      absurd (reads (method_types_of m) (method_rest bytes first rest split (method_types_of m) spelled) (method_texts (method_types_of m) (subst IsModifiedUtf8 spelled.1 form)))
  only_found (Ok (Some u)) reads m spelled form =
      ap {A = MethodType} (λ y. Some y) (one_method u m (reads (method_types_of m) (method_rest bytes first rest split (method_types_of m) spelled)))
