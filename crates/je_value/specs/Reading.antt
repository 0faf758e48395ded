-- Serves private functions: the types at the front of bytes, and what comes after them.
use Rattle.std.specs.Prelude.{◌≡◌, ℕ, ◌+◌, ◌==◌, List, [], ◌∷◌, take, drop, position}
use Rattle.std.specs.Prelude.{Option, Some, None, IfSome, ◌++◌, if◌then◌else◌}
use Rattle.std.specs.List.{flat_map, AllByRecursion}
use Rattle.std.specs.Option.{option_map}
use Rattle.je_desc.specs.FieldType.{BaseType, FieldType, Base, Object, Array}
use Rattle.je_desc.specs.FieldType.{IsFieldType, descriptor}
use Rattle.je_desc.specs.FieldType as types
use Rattle.je_desc.specs.Descriptor.{MethodTypes, return_descriptor}
use Rattle.je_base.specs.Text.{is_same_text}
use Rattle.je_value.specs.FieldType.{array_of}

-- the base type of a letter
abbrev pub base_at : ℕ → Option BaseType
base_at n =
    if n == 66 then Some types.Byte else
    if n == 67 then Some types.Char else
    if n == 68 then Some types.Double else
    if n == 70 then Some types.Float else
    if n == 73 then Some types.Int else
    if n == 74 then Some types.Long else
    if n == 83 then Some types.Short else
    if n == 90 then Some types.Boolean else None

-- the class whose name ends at a place
abbrev pub name_to : List ℕ → ℕ → FieldType × List ℕ
name_to bytes end = (Object (take end bytes), drop (end + 1) bytes)

-- the class whose name ends at the first `;`
abbrev pub name_at : List ℕ → Option (FieldType × List ℕ)
name_at bytes = option_map (name_to bytes) (position (λ byte. byte == 59) bytes)

-- a type that is no array
abbrev pub element_at : List ℕ → Option (FieldType × List ℕ)
element_at [] = None
element_at (first ∷ rest) =
    if first == 76 then name_at rest else option_map (λ base. (Base base, rest)) (base_at first)

-- a type
abbrev pub type_at : List ℕ → Option (FieldType × List ℕ)
type_at [] = None
type_at (first ∷ rest) =
    if first == 91 then option_map (λ p. (Array p.0, p.1)) (type_at rest)
    else element_at (first ∷ rest)

-- the type at the front of bytes has so many dimensions more than that which is left
abbrev pub under : ℕ → FieldType × List ℕ → FieldType × List ℕ
under n p = (array_of n p.0, p.1)

-- the bytes are so many `[` and what is left, which is no array
pub record IsUnder (n : ℕ) (left bytes : List ℕ) : Type 0 where
  pub whole : type_at bytes ≡ option_map (under n) (element_at left)

-- what a method answers: `V`, or a type
abbrev pub answer_at : List ℕ → Option (Option FieldType)
answer_at bytes =
    if is_same_text bytes (86 ∷ []) then Some None
    else option_map (λ p. Some p.0) (type_at bytes)

-- the parameters of a method, `)` and what it answers
abbrev pub after_params : List FieldType → Option FieldType → List ℕ
after_params params result = flat_map descriptor params ++ 41 ∷ return_descriptor result

-- the bytes are the descriptor of a method without its `(`
pub record IsMethodRest (m : MethodTypes) (bytes : List ℕ) : Type 0 where
  pub params : AllByRecursion IsFieldType m.params
  pub result : IfSome m.result IsFieldType
  pub whole : bytes ≡ after_params m.params m.result

-- so many parameters were read, and those that are left are spelled by the bytes
pub record IsLeft (m : MethodTypes) (read : List FieldType) (bytes : List ℕ) : Type 0 where
  pub params : List FieldType
  pub joined : m.params ≡ read ++ params
  pub types : AllByRecursion IsFieldType params
  pub whole : bytes ≡ after_params params m.result
