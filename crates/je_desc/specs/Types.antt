-- The types of the program, as the types that descriptors spell.
use Rattle.std.specs.Prelude.{map}
use Rattle.std.specs.Option.{option_map}
use Rattle.je_desc.specs.declared.types.JType.{JType, fold-JType}
use Rattle.je_desc.specs.declared.types.JType.TheOpen.{JType-F}
use Rattle.je_desc.specs.declared.types.MethodType.{MethodType}
use Rattle.je_desc.specs.FieldType.{FieldType, Base, Object, Array}
use Rattle.je_desc.specs.FieldType as spelled
use Rattle.je_desc.specs.Descriptor.{MethodTypes}

-- one level of a type, of which the component is what it stands for already
abbrev pub level_of : JType-F FieldType → FieldType
level_of JType-F.Boolean = Base spelled.Boolean
level_of JType-F.Byte = Base spelled.Byte
level_of JType-F.Char = Base spelled.Char
level_of JType-F.Short = Base spelled.Short
level_of JType-F.Int = Base spelled.Int
level_of JType-F.Long = Base spelled.Long
level_of JType-F.Float = Base spelled.Float
level_of JType-F.Double = Base spelled.Double
level_of (JType-F.Class name) = Object name
level_of (JType-F.Array component) = Array component

-- the type that a `JType` stands for
abbrev pub field_type_of : JType → FieldType
field_type_of t = fold-JType FieldType level_of t

-- the types that a `MethodType` stands for
abbrev pub method_types_of : MethodType → MethodTypes
method_types_of m =
    record { params = map field_type_of m.params; result = option_map field_type_of m.result }
