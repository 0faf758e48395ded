-- Serves private functions: the types at the front of bytes, and what comes after them.
use Rattle.std.specs.Prelude.{◌≡◌, ℕ, ◌==◌, List, ◌∷◌, ◌++◌, Option, Some, None, IfSome}
use Rattle.std.specs.Prelude.{if◌then◌else◌}
use Rattle.std.specs.List.{flat_map, AllByRecursion}
use Rattle.je_base.specs.Ascii.{right_parenthesis}
use Rattle.je_desc.specs.FieldType.{BaseType, Byte, Char, Double, Float, Int, Long, Short, Boolean}
use Rattle.je_desc.specs.FieldType.{FieldType, HasName, IsFieldType, descriptor}
use Rattle.je_desc.specs.Descriptor.{MethodTypes, return_descriptor}

-- the base type of a letter
abbrev pub base_at : ℕ → Option BaseType
base_at n =
    if n == 66 then Some Byte else
    if n == 67 then Some Char else
    if n == 68 then Some Double else
    if n == 70 then Some Float else
    if n == 73 then Some Int else
    if n == 74 then Some Long else
    if n == 83 then Some Short else
    if n == 90 then Some Boolean else None

-- the descriptor of a type stands at the front of the bytes, and this comes after it
pub record IsFront (t : FieldType) (rest bytes : List ℕ) : Type 0 where
  pub named : HasName t
  pub whole : bytes ≡ descriptor t ++ rest

-- the parameters of a method, `)` and what it answers
abbrev pub after_params : List FieldType → Option FieldType → List ℕ
after_params params result =
    flat_map descriptor params ++ right_parenthesis ∷ return_descriptor result

-- the bytes are the descriptor of a method without its `(`
pub record IsMethodRest (m : MethodTypes) (bytes : List ℕ) : Type 0 where
  pub params : AllByRecursion IsFieldType m.params
  pub result : IfSome m.result IsFieldType
  pub whole : bytes ≡ after_params m.params m.result

-- so many parameters were read, and those that are left are spelled by the bytes
pub record IsLeft (m : MethodTypes) (read : List FieldType) (bytes : List ℕ) : Type 0 where
  pub params : List FieldType
  pub joined : m.params ≡ read ++ params
  pub types : AllByRecursion IsFieldType params
  pub whole : bytes ≡ after_params params m.result
