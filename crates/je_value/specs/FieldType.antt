-- The types of the definitions, and the forms that the program has of them.
use Rattle.std.specs.Prelude.{ℕ, zero, suc}
use Rattle.je_desc.specs.FieldType as types
use Rattle.je_value.specs.declared.field_type.BaseType.{BaseType}
use Rattle.je_value.specs.declared.field_type.BaseType.TheVariants as bases
use Rattle.je_value.specs.declared.field_type.ElementType.{ElementType}
use Rattle.je_value.specs.declared.field_type.ElementType.TheVariants as elements

-- the base type of a form
abbrev pub base_in : BaseType → types.BaseType
base_in bases.Byte = types.Byte
base_in bases.Char = types.Char
base_in bases.Double = types.Double
base_in bases.Float = types.Float
base_in bases.Int = types.Int
base_in bases.Long = types.Long
base_in bases.Short = types.Short
base_in bases.Boolean = types.Boolean

-- the type of a form that is no array
abbrev pub element_in : ElementType → types.FieldType
element_in (elements.Base base) = types.Base (base_in base)
element_in (elements.Object name) = types.Object name

-- the type of so many dimensions of another
abbrev pub array_of : ℕ → types.FieldType → types.FieldType
array_of zero t = t
array_of (suc n) t = types.Array (array_of n t)
