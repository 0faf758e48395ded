-- The types that descriptors spell, and their spelling (JVMS SE 8, 4.3.2).
use Rattle.std.specs.Prelude.{ℕ, suc, ◌≤◌, List, [], ◌∷◌, ◌++◌}
use Rattle.je_base.specs.Ascii.{letter_L, semicolon, left_bracket}
use Rattle.je_desc.specs.Names.{IsClassName}

-- BaseType
pub data BaseType : Type 0 where
  Byte : BaseType
  Char : BaseType
  Double : BaseType
  Float : BaseType
  Int : BaseType
  Long : BaseType
  Short : BaseType
  Boolean : BaseType

-- FieldType: a base type, a class by its name, or an array of a component type
pub data FieldType : Type 0 where
  Base : (base : BaseType) → FieldType
  Object : (name : List ℕ) → FieldType
  Array : (component : FieldType) → FieldType

-- the class in a type, if there is one, has such a name
abbrev pub HasName : FieldType → Type 0
HasName (Base base) = Unit {0}
HasName (Object name) = IsClassName name
HasName (Array component) = HasName component

-- how many dimensions an array has; what is no array has none
abbrev pub dimensions : FieldType → ℕ
dimensions (Base base) = 0
dimensions (Object name) = 0
dimensions (Array component) = suc (dimensions component)

-- the most dimensions that an array has
abbrev pub most_dimensions : ℕ
most_dimensions = 255

-- a type that has a descriptor: an array has at most 255 dimensions
pub record IsFieldType (t : FieldType) : Type 0 where
  pub named : HasName t
  pub within : dimensions t ≤ most_dimensions

-- the BaseType character (Table 4.3-A)
abbrev pub letter : BaseType → ℕ
letter Byte = 66  -- B
letter Char = 67  -- C
letter Double = 68  -- D
letter Float = 70  -- F
letter Int = 73  -- I
letter Long = 74  -- J
letter Short = 83  -- S
letter Boolean = 90  -- Z

-- the descriptor of a type: a letter, `L` ClassName `;`, or `[` ComponentType
abbrev pub descriptor : FieldType → List ℕ
descriptor (Base base) = letter base ∷ []
descriptor (Object name) = letter_L ∷ (name ++ semicolon ∷ [])
descriptor (Array component) = left_bracket ∷ descriptor component
