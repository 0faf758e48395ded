-- A class file as a record (JVMS 4.1), and what its indexes name.
use Rattle.std.specs.Prelude.{◌≡◌, ℕ, zero, suc, ◌<◌, List, [], ◌∷◌, Some}
use Rattle.std.specs.Prelude.{IsSome, IfSome, IsSomeAnd, slice_get}
use Rattle.je_consts.specs.declared.place.Place.{Place}
use Rattle.je_consts.specs.Pool.{text_at, class_at}
use Rattle.je_class.specs.declared.member.Attribute.{Attribute}
use Rattle.je_class.specs.declared.member.Member.{Member}
use Rattle.je_desc.specs.Names.{IsClassName}
pub use Rattle.je_desc.specs.Descriptor.{IsDescriptorOf}

-- the items of a ClassFile structure, in the order of the file; the magic number and the counts
-- follow from them
pub record Class : Type 0 where
  pub minor : ℕ
  pub major : ℕ
  pub consts : List Place
  pub access : ℕ
  pub this_class : ℕ
  pub super_class : ℕ
  pub interfaces : List ℕ
  pub fields : List Member
  pub methods : List Member
  pub attributes : List Attribute

-- the index of a class that is no array
abbrev pub IsClassIndex : List Place → ℕ → Type 0
IsClassIndex consts i = IsSomeAnd (class_at consts i) IsClassName

-- the index of a text
abbrev pub IsTextIndex : List Place → ℕ → Type 0
IsTextIndex consts i = IsSome (text_at consts i)

-- the method has this name and this descriptor
pub record IsNamed (consts : List Place) (name descriptor : List ℕ) (m : Member) : Type 0 where
  pub name_is : text_at consts m.name ≡ Some name
  pub descriptor_is : text_at consts m.descriptor ≡ Some descriptor

-- the first method of this name and descriptor stands at this place of the methods
pub record IsMethodAt (c : Class) (name descriptor : List ℕ) (at : ℕ) : Type 0 where
  pub here : IsSomeAnd (slice_get c.methods at) (IsNamed c.consts name descriptor)
  pub first : (i : ℕ) → i < at
      → IfSome (slice_get c.methods i) (λ m. IsNamed c.consts name descriptor m → ⊥)

-- a list with a function applied at one place
abbrev pub changed_at : {A : Type 0} → ℕ → (A → A) → List A → List A
changed_at at f [] = []
changed_at zero f (x ∷ xs) = f x ∷ xs
changed_at (suc at) f (x ∷ xs) = x ∷ changed_at at f xs

-- an attribute with other bytes
abbrev pub with_bytes : List ℕ → Attribute → Attribute
with_bytes bytes a = record { name = a.name; bytes = bytes }

-- a method, of which one attribute has other bytes
abbrev pub with_attribute : ℕ → List ℕ → Member → Member
with_attribute at bytes m = record {
  access = m.access;
  name = m.name;
  descriptor = m.descriptor;
  attributes = changed_at at (with_bytes bytes) m.attributes;
}

-- a class, of which one method's attribute has other bytes
abbrev pub with_method_attribute : ℕ → ℕ → List ℕ → Class → Class
with_method_attribute method attribute bytes c =
    record c { methods = changed_at method (with_attribute attribute bytes) c.methods }

-- a class with another constant pool, of which one method's attribute has other bytes
abbrev pub with_code : ℕ → ℕ → List ℕ → List Place → Class → Class
with_code method attribute bytes consts c =
    record c {
      consts = consts;
      methods = changed_at method (with_attribute attribute bytes) c.methods;
    }
