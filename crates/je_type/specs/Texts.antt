-- Serves private functions: types of which the names are class file texts (JVMS 4.4.7).
use Rattle.std.specs.Prelude.{IfSome}
use Rattle.std.specs.List.{AllByRecursion}
use Rattle.je_base.specs.Text.{IsModifiedUtf8}
use Rattle.je_desc.specs.FieldType.{FieldType, Base, Object, Array}
use Rattle.je_desc.specs.Descriptor.{MethodTypes}

-- the name of the class in a type, if there is one, is in modified UTF-8
abbrev pub HasText : FieldType → Type 0
HasText (Base base) = Unit {0}
HasText (Object name) = IsModifiedUtf8 name
HasText (Array component) = HasText component

-- so are those in the types of a method
pub record HaveTexts (m : MethodTypes) : Type 0 where
  pub params : AllByRecursion HasText m.params
  pub result : IfSome m.result HasText
