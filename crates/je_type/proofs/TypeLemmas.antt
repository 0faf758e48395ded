-- The types of the program and the types that descriptors spell: each stands for the other.
use Rattle.std.proofs.Common.{◌≡◌, ◌∙◌, ℕ, List, [], ◌∷◌, Option, Some, None, refl, ap, subst, sym, map}
use Rattle.std.specs.Option.{option_map}
use Rattle.je_desc.specs.declared.types.JType.{JType}
use Rattle.je_desc.specs.declared.types.JType.TheVariants as types
use Rattle.je_desc.specs.declared.types.JType.TheVariants.{rolls-Boolean, rolls-Byte, rolls-Char, rolls-Short, rolls-Int, rolls-Long, rolls-Float, rolls-Double, rolls-Class, rolls-Array}
use Rattle.je_desc.specs.declared.types.JType.TheOpen.{JType-F}
use Rattle.je_desc.specs.declared.types.JType.TheViews.{roll-JType}
use Rattle.je_desc.specs.declared.types.JType.TheFolds.{fold-roll-JType, ind-JType, map-JType}
use Rattle.je_desc.specs.declared.types.MethodType.{MethodType}
use Rattle.je_desc.specs.FieldType.{FieldType, Base, Object, Array}
use Rattle.je_desc.specs.FieldType as spelled
use Rattle.je_desc.specs.Descriptor.{MethodTypes}
use Rattle.je_desc.specs.Types.{field_type_of, level_of, method_types_of}

pub is_Class : (name : List ℕ) → field_type_of (types.Class name) ≡ Object name
is_Class name = ap field_type_of (sym (rolls-Class name)) ∙ fold-roll-JType FieldType level_of (JType-F.Class name)

pub is_Array : (t : JType) → field_type_of (types.Array t) ≡ Array (field_type_of t)
is_Array t = ap field_type_of (sym (rolls-Array t)) ∙ fold-roll-JType FieldType level_of (JType-F.Array t)

-- the type of the program that stands for a type
abbrev type_in : FieldType → JType
type_in (Base spelled.Boolean) = types.Boolean
type_in (Base spelled.Byte) = types.Byte
type_in (Base spelled.Char) = types.Char
type_in (Base spelled.Short) = types.Short
type_in (Base spelled.Int) = types.Int
type_in (Base spelled.Long) = types.Long
type_in (Base spelled.Float) = types.Float
type_in (Base spelled.Double) = types.Double
type_in (Object name) = types.Class name
type_in (Array component) = types.Array (type_in component)

-- the types that stand for types of the program are these again
abbrev IsBack : JType → Type 0
IsBack t = type_in (field_type_of t) ≡ t

at_level : {A : Type 0} (f : A → JType) → ((a : A) → IsBack (f a)) → (y : JType-F A) → IsBack (roll-JType (map-JType A JType f y))
at_level f all JType-F.Boolean = ap type_in (fold-roll-JType FieldType level_of JType-F.Boolean) ∙ sym rolls-Boolean
at_level f all JType-F.Byte = ap type_in (fold-roll-JType FieldType level_of JType-F.Byte) ∙ sym rolls-Byte
at_level f all JType-F.Char = ap type_in (fold-roll-JType FieldType level_of JType-F.Char) ∙ sym rolls-Char
at_level f all JType-F.Short = ap type_in (fold-roll-JType FieldType level_of JType-F.Short) ∙ sym rolls-Short
at_level f all JType-F.Int = ap type_in (fold-roll-JType FieldType level_of JType-F.Int) ∙ sym rolls-Int
at_level f all JType-F.Long = ap type_in (fold-roll-JType FieldType level_of JType-F.Long) ∙ sym rolls-Long
at_level f all JType-F.Float = ap type_in (fold-roll-JType FieldType level_of JType-F.Float) ∙ sym rolls-Float
at_level f all JType-F.Double = ap type_in (fold-roll-JType FieldType level_of JType-F.Double) ∙ sym rolls-Double
at_level f all (JType-F.Class name) =
    ap type_in (fold-roll-JType FieldType level_of (JType-F.Class name)) ∙ sym (rolls-Class name)
at_level f all (JType-F.Array a) =
    ap type_in (fold-roll-JType FieldType level_of (JType-F.Array (f a)))
    ∙ ap (λ (t : JType). types.Array t) (all a) ∙ sym (rolls-Array (f a))

pub back : (t : JType) → IsBack t
back = ind-JType IsBack (λ x y is. subst (λ (z : JType-F JType). IsBack (roll-JType z)) is (at_level (λ e. e.0) (λ e. e.1) y))

-- types of the program that stand for one type are one
pub one_type : (t u : JType) → field_type_of t ≡ field_type_of u → t ≡ u
one_type t u e = sym (back t) ∙ ap type_in e ∙ back u

one_list : (ts us : List JType) → map field_type_of ts ≡ map field_type_of us → ts ≡ us
one_list [] [] e = refl
one_list [] (u ∷ us) e = absurd cc
one_list (t ∷ ts) [] e = absurd cc
one_list (t ∷ ts) (u ∷ us) e =
    let first : field_type_of t ≡ field_type_of u = cc in
    let others : map field_type_of ts ≡ map field_type_of us = cc in
    λ i. one_type t u first i ∷ one_list ts us others i

one_result : (r s : Option JType) → option_map field_type_of r ≡ option_map field_type_of s → r ≡ s
one_result None None e = refl
one_result None (Some u) e = absurd cc
one_result (Some t) None e = absurd cc
one_result (Some t) (Some u) e =
    let same : field_type_of t ≡ field_type_of u = cc in ap {A = JType} (λ x. Some x) (one_type t u same)

-- so are those of a method
pub one_method : (m n : MethodType) → method_types_of m ≡ method_types_of n → m ≡ n
one_method m n e =
    let params = one_list m.params n.params (ap (λ (x : MethodTypes). x.params) e) in
    let result = one_result m.result n.result (ap (λ (x : MethodTypes). x.result) e) in
    λ i. record { params = params i; result = result i }
