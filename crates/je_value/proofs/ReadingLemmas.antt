-- Types at the front of bytes.
use Rattle.std.proofs.Common.{◌≡◌, ◌≢◌, ℕ, zero, suc, ◌+◌, ◌<◌, List, [], ◌∷◌, ◌++◌, length, Option}
use Rattle.std.proofs.Common.{Some, None, false, refl, sym, ap, subst, ◌∙◌, add-one, arith}
use Rattle.std.proofs.Common.{append_assoc, length-append}
use Rattle.std.specs.Prelude.{◌==◌, Result, Ok, Err, IfOk, IfSome}
use Rattle.std.specs.Option.{option_map}
use Rattle.std.specs.List.{position, position_or_len, AllByRecursion}
use Rattle.std.proofs.lemmas.Bool.{lt-ltb}
use Rattle.std.proofs.lemmas.Bool.Decides.{nat_tests}
use Rattle.std.proofs.lemmas.List.{append-nil}
use Rattle.std.proofs.lemmas.List.Elements.{recursion_from_All}
use Rattle.std.proofs.Math.Seq.{take-append_seam, drop-append-add}
use Rattle.je_desc.specs.Names.{IsNameByte, IsClassName}
use Rattle.je_desc.specs.FieldType.{FieldType, Base, Object, Array, HasName, descriptor}
use Rattle.je_desc.specs.FieldType as types
use Rattle.je_desc.specs.Descriptor.{SpellsField}
use Rattle.je_value.specs.FieldType.{array_of}
use Rattle.je_value.specs.Reading.{name_to, name_at, type_at, under}

array_more : (n : ℕ) (t : FieldType) → array_of n (Array t) ≡ array_of (n + 1) t
array_more n t = inner n t ∙ ap (λ m. array_of m t) (sym (add-one n))
  where
    inner : (n : ℕ) (t : FieldType) → array_of n (Array t) ≡ array_of (suc n) t
    inner zero t = refl
    inner (suc n) t = ap (λ u. Array u) (inner n t)

-- one `[` more
pub one_more : (n : ℕ) (found : Option (FieldType × List ℕ))
    → option_map (under n) (option_map (λ p. (Array p.0, p.1)) found)
    ≡ option_map (under (n + 1)) found
one_more n None = refl
one_more n (Some p) = ap (λ t. Some (t, p.1)) (array_more n p.0)

-- ---- what is spelled is read

no_end : (b : ℕ) → b ≢ 59 → (b == 59) ≡ false
no_end b h = grind (arith, nat_tests)

name_length : (name rest : List ℕ) → AllByRecursion IsNameByte name
    → position_or_len (λ byte. byte == 59) (name ++ 59 ∷ rest) ≡ length name
name_length [] rest each = refl
name_length (b ∷ name) rest each =
    rw (no_end b each.0.1, name_length name rest each.1) (omega arith)

ends : (name rest : List ℕ) → IsClassName name
    → position (λ byte. byte == 59) (name ++ 59 ∷ rest) ≡ Some (length name)
ends name rest named =
    let each = recursion_from_All IsNameByte name named.1 in
    let lt : length name < length (name ++ 59 ∷ rest) = simp length-append (omega arith) in
    rw (name_length name rest each, lt-ltb _ _ lt) refl

name_again : (name rest : List ℕ) → IsClassName name
    → name_at (name ++ 59 ∷ rest) ≡ Some (Object name, rest)
name_again name rest named =
    ap (option_map (name_to (name ++ 59 ∷ rest))) (ends name rest named)
    ∙ (λ i. Some (
      Object (take-append_seam name (59 ∷ rest) i),
      drop-append-add name (59 ∷ rest) 1 i,
    ))

pub type_again : (t : FieldType) (rest : List ℕ) → HasName t
    → type_at (descriptor t ++ rest) ≡ Some (t, rest)
type_again (Base types.Byte) rest named = refl
type_again (Base types.Char) rest named = refl
type_again (Base types.Double) rest named = refl
type_again (Base types.Float) rest named = refl
type_again (Base types.Int) rest named = refl
type_again (Base types.Long) rest named = refl
type_again (Base types.Short) rest named = refl
type_again (Base types.Boolean) rest named = refl
type_again (Object name) rest named = ap name_at (append_assoc name (59 ∷ []) rest)
    ∙ name_again name rest named
type_again (Array component) rest named =
    ap (option_map (λ p. (Array p.0, p.1))) (type_again component rest named)

-- the type of a field descriptor
pub field_at : (bytes : List ℕ) (t : FieldType) → SpellsField bytes t
    → option_map (λ p. p.0) (type_at bytes) ≡ Some t
field_at bytes t spelled =
    ap (λ s. option_map (λ p. p.0) (type_at s)) (spelled.1 ∙ sym (append-nil (descriptor t)))
    ∙ ap (option_map (λ p. p.0)) (type_again t [] spelled.0.named)

-- ---- the answer of a call, by what it is

pub ok_is : {T E : Type 0} (r : Result T E) (x y : T) → IfOk r (λ f. f ≡ x) → x ≡ y
    → IfOk r (λ f. f ≡ y)
ok_is (Ok f) x y e h = e ∙ h
ok_is (Err e) x y h i = tt

pub ok_some : {T E : Type 0} (r : Result (Option T) E) (P : T → Type 0) (t : T)
    → IfOk r (λ f. f ≡ Some t) → P t → IfOk r (λ f. IfSome f P)
ok_some (Ok f) P t e p = subst (λ o. IfSome o P) (sym e) p
ok_some (Err e) P t h p = tt
