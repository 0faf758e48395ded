-- Serves private functions: counts and lengths that fit the numbers in which a class file has them
-- (JVMS 4.1 and 4.5 to 4.7).
use Rattle.std.specs.Prelude.{◌^◌, ◌<◌, List, length}
use Rattle.std.specs.List.{AllByRecursion}
use Rattle.je_class.specs.declared.member.Attribute.{Attribute}
use Rattle.je_class.specs.declared.member.Member.{Member}
use Rattle.je_class.specs.Class.{Class}

-- the count fits its two bytes, and each item fits
abbrev pub FitsTable : {A : Type 0} → (A → Type 0) → List A → Type 0
FitsTable Fits xs = (length xs < 2 ^ 16) × AllByRecursion Fits xs

abbrev pub FitsAttribute : Attribute → Type 0
FitsAttribute a = length a.bytes < 2 ^ 32

abbrev pub FitsMember : Member → Type 0
FitsMember m = FitsTable FitsAttribute m.attributes

pub record FitsClass (c : Class) : Type 0 where
  pub interfaces : length c.interfaces < 2 ^ 16
  pub fields : FitsTable FitsMember c.fields
  pub methods : FitsTable FitsMember c.methods
  pub attributes : FitsTable FitsAttribute c.attributes
