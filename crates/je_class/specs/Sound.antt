-- What holds of every class file in memory, item by item (JVMS 4.1 and 4.5 to 4.7): each number
-- fits its bytes, and each index names what it has to.
use Rattle.std.specs.Prelude.{◌≡◌, ℕ, ◌^◌, ◌<◌, ◌≤◌, ◌⊎◌, List, length, All, IsSomeAnd}
use Rattle.je_consts.specs.declared.place.Place.{Place}
use Rattle.je_consts.specs.Pool.{text_at, IsPool}
use Rattle.je_desc.specs.Descriptor.{FieldDescriptor}
use Rattle.je_class.specs.declared.parts.TheConstants.{OLDEST_MAJOR, NEWEST_MAJOR}
use Rattle.je_class.specs.declared.member.Attribute.{Attribute}
use Rattle.je_class.specs.declared.member.Member.{Member}
use Rattle.je_class.specs.Class.{Class, IsClassIndex, IsTextIndex, IsDescriptorOf}

-- an attribute whose name is a text (JVMS 4.7)
pub record IsSoundAttribute (consts : List Place) (a : Attribute) : Type 0 where
  pub name : IsTextIndex consts a.name
  pub name_fits : a.name < 2 ^ 16
  pub length_fits : length a.bytes < 2 ^ 32

-- a field or a method whose name is a text, and whose descriptor is a text of which this holds
pub record IsSoundMember (P : List ℕ → Type 0) (consts : List Place) (m : Member) : Type 0 where
  pub name : IsTextIndex consts m.name
  pub descriptor : IsSomeAnd (text_at consts m.descriptor) P
  pub attributes : All (IsSoundAttribute consts) m.attributes
  pub access_fits : m.access < 2 ^ 16
  pub name_fits : m.name < 2 ^ 16
  pub descriptor_fits : m.descriptor < 2 ^ 16
  pub attributes_fit : length m.attributes < 2 ^ 16

-- a field (JVMS 4.5)
abbrev pub IsSoundField : List Place → Member → Type 0
IsSoundField consts m = IsSoundMember FieldDescriptor consts m

-- a method (JVMS 4.6)
abbrev pub IsSoundMethod : List Place → Member → Type 0
IsSoundMethod consts m = IsSoundMember (IsDescriptorOf m.access) consts m

-- the index of an interface
pub record IsSoundInterface (consts : List Place) (index : ℕ) : Type 0 where
  pub class : IsClassIndex consts index
  pub fits : index < 2 ^ 16

-- what holds of each item of a class file (JVMS 4.1)
pub record HasSoundParts (c : Class) : Type 0 where
  pub version : (OLDEST_MAJOR ≤ c.major) × (c.major ≤ NEWEST_MAJOR)
  pub consts : IsPool c.consts
  pub this_class : IsClassIndex c.consts c.this_class
  pub super_class : (c.super_class ≡ 0) ⊎ IsClassIndex c.consts c.super_class
  pub interfaces : All (IsSoundInterface c.consts) c.interfaces
  pub fields : All (IsSoundField c.consts) c.fields
  pub methods : All (IsSoundMethod c.consts) c.methods
  pub attributes : All (IsSoundAttribute c.consts) c.attributes
  pub minor_fits : c.minor < 2 ^ 16
  pub access_fits : c.access < 2 ^ 16
  pub this_class_fits : c.this_class < 2 ^ 16
  pub super_class_fits : c.super_class < 2 ^ 16
  pub interfaces_fit : length c.interfaces < 2 ^ 16
  pub fields_fit : length c.fields < 2 ^ 16
  pub methods_fit : length c.methods < 2 ^ 16
  pub attributes_fit : length c.attributes < 2 ^ 16
