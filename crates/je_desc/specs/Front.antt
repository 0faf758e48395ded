-- Serves private functions: what stands at the front of bytes, and what comes after it.
use Rattle.std.specs.Prelude.{◌≡◌, ℕ, ◌+◌, ◌≤◌, List, ◌∷◌, ◌++◌, Option, IfSome}
use Rattle.std.specs.List.{flat_map, sum_by, AllByRecursion}
use Rattle.je_base.specs.Ascii.{semicolon, right_parenthesis}
use Rattle.je_desc.specs.FieldType.{BaseType, FieldType, HasName, IsFieldType}
use Rattle.je_desc.specs.FieldType.{dimensions, most_dimensions, letter, descriptor}
use Rattle.je_desc.specs.Names.{IsClassName}
use Rattle.je_desc.specs.Descriptor.{units_of, return_descriptor}

abbrev pub IsBaseLetter : ℕ → Type 0
IsBaseLetter b = (base : BaseType) × (b ≡ letter base)

-- a class name and its `;`
pub record NameFront (bytes rest : List ℕ) : Type 0 where
  pub name : List ℕ
  pub is_name : IsClassName name
  pub whole : bytes ≡ name ++ semicolon ∷ rest

-- a field descriptor, or what is left of one after so many `[`
pub record FieldFront (read : ℕ) (bytes rest : List ℕ) : Type 0 where
  pub type : FieldType
  pub named : HasName type
  pub within : dimensions type + read ≤ most_dimensions
  pub whole : bytes ≡ descriptor type ++ rest

-- parameters of so many units, and `)`
pub record ParamsFront (bytes : List ℕ) (n : ℕ) (rest : List ℕ) : Type 0 where
  pub params : List FieldType
  pub types : AllByRecursion IsFieldType params
  pub units : n ≡ sum_by units_of params
  pub whole : bytes ≡ flat_map descriptor params ++ right_parenthesis ∷ rest

-- what stands after the `)`
pub record ReturnDescriptor (bytes : List ℕ) : Type 0 where
  pub result : Option FieldType
  pub type : IfSome result IsFieldType
  pub whole : bytes ≡ return_descriptor result
