-- Whole descriptors, by their fronts.
use Rattle.std.proofs.Common.{◌≡◌, ℕ, ◌≤◌, ◌⊎◌, inl, inr, Option, Some, None, IfSome, List, [], ◌∷◌, ◌++◌, length, refl, sym, ap, ◌∙◌, arith}
use Rattle.std.proofs.lemmas.List.{append-nil}
use Rattle.je_desc.specs.FieldType.{FieldType, IsFieldType, descriptor}
use Rattle.je_desc.specs.Descriptor.{FieldDescriptor, IsMethodTypes, MethodDescriptor, method_descriptor, return_descriptor}
use Rattle.je_desc.specs.Front.{FieldFront, ParamsFront, ReturnDescriptor}

nothing : (rest : List ℕ) → length rest ≡ 0 → rest ≡ []
nothing [] e = refl
nothing (b ∷ rest) e = absurd (omega arith)

pub field_of-front : (bytes rest : List ℕ) → length rest ≡ 0 → FieldFront 0 bytes rest → FieldDescriptor bytes
field_of-front bytes rest none front =
    let fits : IsFieldType front.type = record { named = front.named; within = omega (arith, front.within) } in
    (front.type, (fits, front.whole ∙ ap (λ s. descriptor front.type ++ s) (nothing rest none) ∙ append-nil (descriptor front.type)))

pub front_of-field : (bytes : List ℕ) → FieldDescriptor bytes → FieldFront 0 bytes []
front_of-field bytes field = record {
  type = field.0;
  named = field.1.0.named;
  within = omega (arith, field.1.0.within);
  whole = field.1.1 ∙ sym (append-nil (descriptor field.0));
}

return_leaves : (result : Option FieldType) (bytes : List ℕ) → IfSome result IsFieldType → bytes ≡ return_descriptor result → (bytes ≡ 86 ∷ []) ⊎ FieldDescriptor bytes
return_leaves None bytes type whole = inl whole
return_leaves (Some t) bytes type whole = inr (t, (type, whole))

-- a return descriptor is `V` or a field descriptor
pub of-return : (bytes : List ℕ) → ReturnDescriptor bytes → (bytes ≡ 86 ∷ []) ⊎ FieldDescriptor bytes
of-return bytes r = return_leaves r.result bytes r.type r.whole

pub return-void : (bytes : List ℕ) → bytes ≡ 86 ∷ [] → ReturnDescriptor bytes
return-void bytes whole = record { result = None; type = tt; whole = whole }

pub return-field : (bytes : List ℕ) → FieldDescriptor bytes → ReturnDescriptor bytes
return-field bytes field = record { result = Some field.0; type = field.1.0; whole = field.1.1 }

-- `(`, the front that the parameters are, and a return descriptor
pub method_of-front : (bytes : List ℕ) (first : ℕ) (rest : List ℕ) (n : ℕ) (x : List ℕ) → bytes ≡ first ∷ rest → first ≡ 40 → n ≤ 255 → ParamsFront rest n x → ReturnDescriptor x → MethodDescriptor bytes n
method_of-front bytes first rest n x whole opens most front r =
    let is_method : IsMethodTypes (record { params = front.params; result = r.result }) =
    record { params = front.types; result = r.type; within = rw (sym front.units) most } in
    (record { params = front.params; result = r.result }, (is_method, cc (whole, opens, front.whole, r.whole)), front.units)

pub front_of-method : (bytes : List ℕ) (first : ℕ) (rest : List ℕ) (n : ℕ) → bytes ≡ first ∷ rest → MethodDescriptor bytes n → (first ≡ 40) × (n ≤ 255) × (x : List ℕ) × ParamsFront rest n x × ReturnDescriptor x
front_of-method bytes first rest n whole method =
    let spelled : first ∷ rest ≡ method_descriptor method.0 = sym whole ∙ method.1.1 in (
      cc,
      rw method.2 method.1.0.within,
      return_descriptor method.0.result,
      record { params = method.0.params; types = method.1.0.params; units = method.2; whole = cc },
      record { result = method.0.result; type = method.1.0.result; whole = refl },
    )
