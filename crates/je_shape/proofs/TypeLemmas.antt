-- The types of the program, constructor by constructor.
use Rattle.std.proofs.Common.{◌≡◌, ◌∙◌, ℕ, List, ap, sym}
use Rattle.je_desc.specs.declared.types.JType.{JType}
use Rattle.je_desc.specs.declared.types.JType.TheVariants as types
use Rattle.je_desc.specs.declared.types.JType.TheVariants.{rolls-Boolean, rolls-Byte, rolls-Char, rolls-Short, rolls-Int, rolls-Long, rolls-Float, rolls-Double, rolls-Class, rolls-Array}
use Rattle.je_desc.specs.declared.types.JType.TheOpen.{JType-F}
use Rattle.je_desc.specs.declared.types.JType.TheFolds.{fold-roll-JType}
use Rattle.je_desc.specs.FieldType.{FieldType, Base, Object, Array}
use Rattle.je_desc.specs.FieldType as spelled
use Rattle.je_desc.specs.Types.{field_type_of, level_of}

pub is_Boolean : field_type_of types.Boolean ≡ Base spelled.Boolean
is_Boolean = ap field_type_of (sym rolls-Boolean) ∙ fold-roll-JType FieldType level_of JType-F.Boolean

pub is_Byte : field_type_of types.Byte ≡ Base spelled.Byte
is_Byte = ap field_type_of (sym rolls-Byte) ∙ fold-roll-JType FieldType level_of JType-F.Byte

pub is_Char : field_type_of types.Char ≡ Base spelled.Char
is_Char = ap field_type_of (sym rolls-Char) ∙ fold-roll-JType FieldType level_of JType-F.Char

pub is_Short : field_type_of types.Short ≡ Base spelled.Short
is_Short = ap field_type_of (sym rolls-Short) ∙ fold-roll-JType FieldType level_of JType-F.Short

pub is_Int : field_type_of types.Int ≡ Base spelled.Int
is_Int = ap field_type_of (sym rolls-Int) ∙ fold-roll-JType FieldType level_of JType-F.Int

pub is_Long : field_type_of types.Long ≡ Base spelled.Long
is_Long = ap field_type_of (sym rolls-Long) ∙ fold-roll-JType FieldType level_of JType-F.Long

pub is_Float : field_type_of types.Float ≡ Base spelled.Float
is_Float = ap field_type_of (sym rolls-Float) ∙ fold-roll-JType FieldType level_of JType-F.Float

pub is_Double : field_type_of types.Double ≡ Base spelled.Double
is_Double = ap field_type_of (sym rolls-Double) ∙ fold-roll-JType FieldType level_of JType-F.Double

pub is_Class : (name : List ℕ) → field_type_of (types.Class name) ≡ Object name
is_Class name = ap field_type_of (sym (rolls-Class name)) ∙ fold-roll-JType FieldType level_of (JType-F.Class name)

pub is_Array : (t : JType) → field_type_of (types.Array t) ≡ Array (field_type_of t)
is_Array t = ap field_type_of (sym (rolls-Array t)) ∙ fold-roll-JType FieldType level_of (JType-F.Array t)
