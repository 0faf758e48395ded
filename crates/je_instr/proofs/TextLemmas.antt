-- What texts of classes and of methods begin and end with.
use Rattle.std.proofs.Common.{◌≡◌, ℕ, suc, ◌+◌, ◌-◌, ◌<◌, ◌≤◌, Bool, true, false, List, [], ◌∷◌}
use Rattle.std.proofs.Common.{◌++◌, length, get_or, Option, Some, None, refl, sym, ap, subst, ◌∙◌}
use Rattle.std.proofs.Common.{◌⊎◌, inl, inr, arith, length-append}
use Rattle.std.specs.List.{flat_map}
use Rattle.std.proofs.lemmas.List.{get_or-append-add}
use Rattle.je_desc.specs.Names.{IsClassName}
use Rattle.je_desc.specs.FieldType.{BaseType, Byte, Char, Double, Float, Int, Long, Short, Boolean}
use Rattle.je_desc.specs.FieldType.{FieldType, Base, Object, Array, dimensions, letter, descriptor}
use Rattle.je_desc.specs.Descriptor.{MethodTypes, SpellsField, FieldDescriptor, SpellsMethod}
use Rattle.je_desc.specs.Descriptor.{return_descriptor, method_descriptor}
use Rattle.je_instr.specs.Allowed.{IsClassText, IsMadeOf, HasDimensions}
use Rattle.je_instr.specs.OpcodeTests.{brackets, IsArrayText}

pub refuted : (b : Bool) → b ≡ false → b ≡ true → ⊥
refuted b e h = let n : true ≡ false = sym h ∙ e in absurd cc

-- ---- arrays

-- a descriptor that begins so is that of an array
array_of : (t : FieldType) (text : List ℕ) → IsArrayText text → SpellsField text t → (c : FieldType) × (t ≡ Array c)
array_of (Array c) text h s = (c, refl)
array_of (Object n) text h s = absurd (let e : ◌≡◌ {A = ℕ} 76 91 = first 76 91 (n ++ 59 ∷ []) h.0 (sym s.1 ∙ h.1) in omega arith) where
  first : (a b : ℕ) (xs ys : List ℕ) → a ∷ xs ≡ b ∷ ys → a ≡ b
  first a b xs ys e = cc
array_of (Base b) text h s = absurd (no_letter b (first (letter b) 91 [] h.0 (sym s.1 ∙ h.1))) where
  first : (a b : ℕ) (xs ys : List ℕ) → a ∷ xs ≡ b ∷ ys → a ≡ b
  first a b xs ys e = cc

  no_letter : (b : BaseType) → letter b ≡ 91 → ⊥
  no_letter Byte e = omega (arith, e)
  no_letter Char e = omega (arith, e)
  no_letter Double e = omega (arith, e)
  no_letter Float e = omega (arith, e)
  no_letter Int e = omega (arith, e)
  no_letter Long e = omega (arith, e)
  no_letter Short e = omega (arith, e)
  no_letter Boolean e = omega (arith, e)

pub array_named : (text : List ℕ) → IsArrayText text → FieldDescriptor text → (c : FieldType) × SpellsField text (Array c)
array_named text h d = let a = array_of d.0 text h d.1 in (a.0, subst (SpellsField text) a.1 d.1)

pub named_array : (text : List ℕ) (c : FieldType) → SpellsField text (Array c) → IsArrayText text × FieldDescriptor text
named_array text c s = ((descriptor c, s.1), (Array c, s))

pub class_text_is : (text : List ℕ) → IsClassName text ⊎ (IsArrayText text × FieldDescriptor text) → IsClassText text
class_text_is text (inl name) = (Object text, (name, refl))
class_text_is text (inr h) = let a = array_named text h.0 h.1 in (Array a.0, a.1)

pub is_class_text : (text : List ℕ) → IsClassText text → IsClassName text ⊎ (IsArrayText text × FieldDescriptor text)
is_class_text text (Base b, h) = absurd h
is_class_text text (Object n, h) = inl (subst IsClassName (sym h.1) h.0)
is_class_text text (Array c, h) = inr (named_array text c h)

-- ---- dimensions

no_bracket : (b : BaseType) → brackets (letter b ∷ []) ≡ 0
no_bracket Byte = refl
no_bracket Char = refl
no_bracket Double = refl
no_bracket Float = refl
no_bracket Int = refl
no_bracket Long = refl
no_bracket Short = refl
no_bracket Boolean = refl

pub brackets_are : (t : FieldType) → brackets (descriptor t) ≡ dimensions t
brackets_are (Base b) = no_bracket b
brackets_are (Object n) = refl
brackets_are (Array c) = ap suc (brackets_are c)

pub dimensions_are : (text : List ℕ) (t : FieldType) → SpellsField text t → brackets text ≡ dimensions t
dimensions_are text t s = ap brackets s.1 ∙ brackets_are t

-- ---- what arrays are made of

pub made_of_class : (text : List ℕ) → IsClassName text → length text ≤ 65532 → (t : FieldType) × IsMadeOf text t
made_of_class text name short = (Object text, record { names = (name, refl); within = omega arith; short = omega (arith, length-append text (59 ∷ []), short) })

pub made_of_array : (text : List ℕ) → IsArrayText text → FieldDescriptor text → brackets text ≤ 254 → length text ≤ 65534 → (t : FieldType) × IsMadeOf text t
made_of_array text h d within short =
    let a = array_named text h d in
    let dims = dimensions_are text (Array a.0) a.1 in
    let size = ap (length {A = ℕ}) a.1.1 in
    (Array a.0, record { names = a.1; within = omega (arith, dims, within); short = omega (arith, size, short) })

pub class_made_of : (text : List ℕ) → IsClassName text → (t : FieldType) → IsMadeOf text t → length text ≤ 65532
class_made_of text name (Base b) h = absurd h.names
class_made_of text name (Object n) h =
    let short = h.short in let size = ap (length {A = ℕ}) h.names.1 in omega (arith, short, length-append n (59 ∷ []), size)
class_made_of text name (Array c) h = absurd (apart text c name h.names.1) where
  apart : (text : List ℕ) (c : FieldType) → IsClassName text → text ≡ 91 ∷ descriptor c → ⊥
  apart text c name e = grind (arith, name.1 0 0, e)

pub array_made_of : (text : List ℕ) → (IsClassName text → ⊥) → (t : FieldType) → IsMadeOf text t → IsArrayText text × FieldDescriptor text × (brackets text ≤ 254) × (length text ≤ 65534)
array_made_of text other (Base b) h = absurd h.names
array_made_of text other (Object n) h = absurd (other (subst IsClassName (sym h.names.1) h.names.0))
array_made_of text other (Array c) h =
    let a = named_array text c h.names in
    let dims = dimensions_are text (Array c) h.names in
    let size = ap (length {A = ℕ}) h.names.1 in
    let within = h.within in
    let short = h.short in
    (a.0, a.1, omega (arith, dims, within), omega (arith, size, short))

pub dimensions_there : (count : ℕ) (text : List ℕ) → 1 ≤ count → IsArrayText text → FieldDescriptor text → count ≤ brackets text → (t : FieldType) × HasDimensions count text t
dimensions_there count text some h d within =
    let a = array_named text h d in
    let dims = dimensions_are text (Array a.0) a.1 in
    (Array a.0, record { names = a.1; some = some; within = omega (arith, dims, within) })

pub there_dimensions : (count : ℕ) (text : List ℕ) (t : FieldType) → HasDimensions count text t → (1 ≤ count) × IsArrayText text × FieldDescriptor text × (count ≤ brackets text)
there_dimensions count text (Base b) h = absurd h.names
there_dimensions count text (Object n) h = let some = h.some in let within = h.within in absurd (omega (arith, some, within))
there_dimensions count text (Array c) h =
    let a = named_array text c h.names in
    let dims = dimensions_are text (Array c) h.names in
    let within = h.within in
    (h.some, a.0, a.1, omega (arith, dims, within))

-- ---- the last byte

abbrev pub last : List ℕ → ℕ
last text = get_or text (length text - 1) 0

last_append : (xs ys : List ℕ) → 0 < length ys → last (xs ++ ys) ≡ last ys
last_append xs ys some =
    let size = length-append xs ys in
    let at : length (xs ++ ys) - 1 ≡ length xs + (length ys - 1) = omega (arith, size, some) in
    ap (λ (n : ℕ). get_or (xs ++ ys) n 0) at ∙ get_or-append-add xs ys (length ys - 1) 0

some_bytes : (t : FieldType) → 0 < length (descriptor t)
some_bytes (Base b) = omega arith
some_bytes (Object n) = omega arith
some_bytes (Array c) = omega arith

last_letter : (b : BaseType) → last (letter b ∷ []) ≡ 86 → ⊥
last_letter Byte e = omega (arith, e)
last_letter Char e = omega (arith, e)
last_letter Double e = omega (arith, e)
last_letter Float e = omega (arith, e)
last_letter Int e = omega (arith, e)
last_letter Long e = omega (arith, e)
last_letter Short e = omega (arith, e)
last_letter Boolean e = omega (arith, e)

last_type : (t : FieldType) → last (descriptor t) ≡ 86 → ⊥
last_type (Base b) e = last_letter b e
last_type (Object n) e =
    let semicolon : last (descriptor (Object n)) ≡ 59 = last_append (76 ∷ n) (59 ∷ []) (omega arith) in
    omega (arith, semicolon, e)
last_type (Array c) e = last_type c (sym (last_append (91 ∷ []) (descriptor c) (some_bytes c)) ∙ e)

last_result : (o : Option FieldType) → (last (return_descriptor o) ≡ 86 → o ≡ None) × (o ≡ None → last (return_descriptor o) ≡ 86)
last_result None = (λ e. refl, λ e. refl)
last_result (Some t) = (λ e. absurd (last_type t e), λ e. absurd (let n = e in cc))

some_result : (o : Option FieldType) → 0 < length (return_descriptor o)
some_result None = omega arith
some_result (Some t) = some_bytes t

last_of_method : (m : MethodTypes) → last (method_descriptor m) ≡ last (return_descriptor m.result)
last_of_method m =
    last_append (40 ∷ flat_map descriptor m.params) (41 ∷ return_descriptor m.result) (omega arith)
    ∙ last_append (41 ∷ []) (return_descriptor m.result) (some_result m.result)

pub nothing_is : (text : List ℕ) (m : MethodTypes) → SpellsMethod text m → (last text ≡ 86 → m.result ≡ None) × (m.result ≡ None → last text ≡ 86)
nothing_is text m s =
    let end : last text ≡ last (return_descriptor m.result) = ap last s.1 ∙ last_of_method m in
    let r = last_result m.result in
    (λ e. r.0 (sym end ∙ e), λ e. end ∙ r.1 e)

pub no_empty : (text : List ℕ) (m : MethodTypes) → SpellsMethod text m → length text ≡ 0 → ⊥
no_empty text m s e = let size = ap (length {A = ℕ}) s.1 in omega (arith, size, e)
