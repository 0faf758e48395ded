-- A summary whose texts are what they stand for, as those of a class file are.
use Rattle.std.specs.Prelude.{ℕ, ◌≤◌, List, length, All, IfSome}
use Rattle.je_desc.specs.declared.summary.MemberSig.{MemberSig}
use Rattle.je_desc.specs.declared.summary.Summary.{Summary}
use Rattle.je_desc.specs.Descriptor.{FieldDescriptor, IsDescriptorOf}
use Rattle.je_desc.specs.Names.{IsClassName}

-- the most bytes that a constant of a class file has room for (JVMS 4.4.7)
abbrev pub most_bytes : ℕ
most_bytes = 65535

-- as many bytes as a constant of a class file has room for
abbrev pub IsShort : List ℕ → Type 0
IsShort text = length text ≤ most_bytes

-- the name of a class that is no array (JVMS 4.2.1)
pub record IsFitName (name : List ℕ) : Type 0 where
  pub class_name : IsClassName name
  pub short : IsShort name

-- a field or a method, of whose descriptor this holds
pub record IsFitMember (IsDescriptor : List ℕ → Type 0) (sig : MemberSig) : Type 0 where
  pub descriptor : IsDescriptor sig.descriptor
  pub name_short : IsShort sig.name
  pub descriptor_short : IsShort sig.descriptor

-- a field with a field descriptor (JVMS 4.5)
abbrev pub IsFitField : MemberSig → Type 0
IsFitField sig = IsFitMember FieldDescriptor sig

-- a method with a descriptor that its access flags allow (JVMS 4.6)
abbrev pub IsFitMethod : MemberSig → Type 0
IsFitMethod sig = IsFitMember (IsDescriptorOf sig.access) sig

-- names are class names, descriptors are descriptors, and each text is short enough
pub record IsFit (s : Summary) : Type 0 where
  pub name : IsFitName s.name
  pub super_name : IfSome s.super_name IsFitName
  pub interfaces : All IsFitName s.interfaces
  pub fields : All IsFitField s.fields
  pub methods : All IsFitMethod s.methods
