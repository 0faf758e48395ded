-- What the indexes of a class file name, the same under another constant pool.
use Rattle.std.specs.Prelude.{◌≡◌, ℕ, List, All}
use Rattle.je_consts.specs.declared.place.Place.{Place}
use Rattle.je_consts.specs.Pool.{text_at, class_at}
use Rattle.je_class.specs.declared.member.Attribute.{Attribute}
use Rattle.je_class.specs.declared.member.Member.{Member}
use Rattle.je_class.specs.Class.{Class}

-- the index names the same text, or none, in both
abbrev pub IsSameText : List Place → List Place → ℕ → Type 0
IsSameText old new index = text_at new index ≡ text_at old index

-- the index names the same class, or none, in both
abbrev pub IsSameClass : List Place → List Place → ℕ → Type 0
IsSameClass old new index = class_at new index ≡ class_at old index

-- the attribute has the same name
abbrev pub IsSameAttribute : List Place → List Place → Attribute → Type 0
IsSameAttribute old new a = IsSameText old new a.name

-- the field or method has the same name and descriptor, and each of its attributes the same name
pub record IsSameMember (old new : List Place) (m : Member) : Type 0 where
  pub name : IsSameText old new m.name
  pub descriptor : IsSameText old new m.descriptor
  pub attributes : All (IsSameAttribute old new) m.attributes

-- under the new places each index of the class names what it names in its own
pub record NamesStay (c : Class) (new : List Place) : Type 0 where
  pub this_class : IsSameClass c.consts new c.this_class
  pub super_class : IsSameClass c.consts new c.super_class
  pub interfaces : All (IsSameClass c.consts new) c.interfaces
  pub fields : All (IsSameMember c.consts new) c.fields
  pub methods : All (IsSameMember c.consts new) c.methods
  pub attributes : All (IsSameAttribute c.consts new) c.attributes
