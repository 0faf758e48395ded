-- A class as other classes see it.
use Rattle.std.specs.Prelude.{◌≡◌, ◌≢◌, ℕ, List, Option, Some, None}
use Rattle.std.specs.List.{AllZip}
use Rattle.je_consts.specs.declared.place.Place.{Place}
use Rattle.je_consts.specs.Pool.{text_at, class_at}
use Rattle.je_desc.specs.declared.summary.MemberSig.{MemberSig}
use Rattle.je_desc.specs.declared.summary.Summary.{Summary}
use Rattle.je_class.specs.declared.member.Member.{Member}
use Rattle.je_class.specs.Class.{Class}

-- the name of the super class, or none where its index is 0 (JVMS 4.1)
abbrev pub IsSuperName : Class → Option (List ℕ) → Type 0
IsSuperName c None = c.super_class ≡ 0
IsSuperName c (Some name) = (c.super_class ≢ 0) × (class_at c.consts c.super_class ≡ Some name)

-- the class of this index has this name
abbrev pub IsNameAt : List Place → ℕ → List ℕ → Type 0
IsNameAt consts index name = class_at consts index ≡ Some name

-- the field's or method's access flags, name and descriptor
pub record IsSignature (consts : List Place) (m : Member) (sig : MemberSig) : Type 0 where
  pub access : sig.access ≡ m.access
  pub name : text_at consts m.name ≡ Some sig.name
  pub descriptor : text_at consts m.descriptor ≡ Some sig.descriptor

-- the names that the class's indexes name, and its members in their order
pub record IsSummary (c : Class) (s : Summary) : Type 0 where
  pub name : class_at c.consts c.this_class ≡ Some s.name
  pub super_name : IsSuperName c s.super_name
  pub interfaces : AllZip (IsNameAt c.consts) c.interfaces s.interfaces
  pub access : s.access ≡ c.access
  pub fields : AllZip (IsSignature c.consts) c.fields s.fields
  pub methods : AllZip (IsSignature c.consts) c.methods s.methods
