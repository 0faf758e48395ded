-- Types as plain data: how many dimensions, and of what.
use Rattle.std.specs.Prelude.{◌≡◌, ℕ, suc, List, Option, nat_eq, if◌then◌else◌, refl, ◌⊎◌}
use Rattle.std.proofs.Common.{ap, inl, inr}
use Rattle.std.specs.Coded.{Coded, code_by, coded×, coded⊎, coded_ℕ, coded_list, coded_option}
use Rattle.je_desc.specs.FieldType.{BaseType, FieldType, Base, Object, Array, letter}
use Rattle.je_desc.specs.FieldType as types
use Rattle.je_desc.specs.Descriptor.{MethodTypes}
use Rattle.je_machine.specs.Action.{Field}
use Rattle.je_value.specs.FieldType.{array_of}

-- the base type of a letter
abbrev pub base_back : ℕ → BaseType
base_back n =
    if nat_eq n 66 then types.Byte else
    if nat_eq n 67 then types.Char else
    if nat_eq n 68 then types.Double else
    if nat_eq n 70 then types.Float else
    if nat_eq n 73 then types.Int else
    if nat_eq n 74 then types.Long else
    if nat_eq n 83 then types.Short else types.Boolean

pub base_is_back : (b : BaseType) → base_back (letter b) ≡ b
base_is_back types.Byte = refl
base_is_back types.Char = refl
base_is_back types.Double = refl
base_is_back types.Float = refl
base_is_back types.Int = refl
base_is_back types.Long = refl
base_is_back types.Short = refl
base_is_back types.Boolean = refl

-- the parts of a type
abbrev pub parts_of : FieldType → ℕ × (ℕ ⊎ List ℕ)
parts_of (Base b) = (0, inl (letter b))
parts_of (Object name) = (0, inr name)
parts_of (Array component) = (suc (parts_of component).0, (parts_of component).1)

-- the type of what is no array
abbrev pub element_back : ℕ ⊎ List ℕ → FieldType
element_back (inl n) = Base (base_back n)
element_back (inr name) = Object name

-- the type of the parts
abbrev pub type_back : ℕ × (ℕ ⊎ List ℕ) → FieldType
type_back p = array_of p.0 (element_back p.1)

pub type_is_back : (t : FieldType) → type_back (parts_of t) ≡ t
type_is_back (Base b) = ap (λ c. Base c) (base_is_back b)
type_is_back (Object name) = refl
type_is_back (Array component) = ap (λ t. Array t) (type_is_back component)

-- a type is stored as its parts
abbrev pub field_type_code : Coded FieldType
field_type_code =
    code_by (ℕ × (ℕ ⊎ List ℕ)) (coded× coded_ℕ (coded⊎ coded_ℕ (coded_list coded_ℕ))) parts_of
    type_back type_is_back

-- the types of a method are stored as a pair
abbrev pub method_types_code : Coded MethodTypes
method_types_code =
    code_by (List FieldType × Option FieldType)
    (coded× (coded_list field_type_code) (coded_option field_type_code))
    (λ m. (m.params, m.result)) (λ p. record { params = p.0; result = p.1 }) (λ _. refl)

-- a field is stored as its three parts
abbrev pub field_code : Coded Field
field_code =
    code_by (List ℕ × (List ℕ × FieldType))
    (coded× (coded_list coded_ℕ) (coded× (coded_list coded_ℕ) field_type_code))
    (λ f. (f.class, (f.name, f.type)))
    (λ p. record { class = p.0; name = p.1.0; type = p.1.1 }) (λ _. refl)
