-- A class file as its parts, one after the other (JVMS 4.1 and 4.5 to 4.7), each with what is
-- tested of it.
use Rattle.std.specs.Prelude.{◌≡◌, ℕ, ◌≤◌, ◌⊎◌, List, [], ◌∷◌, ◌++◌, length, IsSomeAnd}
use Rattle.std.specs.List.{AllByRecursion}
use Rattle.je_base.specs.Parts as form
use Rattle.je_base.specs.Parts.{U2, U4, Run, Nested, Format, table_parts, IsSoundPart}
use Rattle.je_consts.specs.declared.place.Place.{Place}
use Rattle.je_consts.specs.declared.fault.ConstFault.{ConstFault}
use Rattle.je_consts.specs.declared.fault.ConstFault.TheVariants as pool
use Rattle.je_consts.specs.Faults as in_pool
use Rattle.je_consts.specs.Pool.{text_at, IsPool}
use Rattle.je_consts.specs.Layout.{pool_layout}
use Rattle.je_desc.specs.Descriptor.{FieldDescriptor}
use Rattle.je_class.specs.declared.fault.ClassFault.{ClassFault}
use Rattle.je_class.specs.declared.fault.ClassFault.TheVariants.{Truncated, BadMagic, Version}
use Rattle.je_class.specs.declared.fault.ClassFault.TheVariants.{BadConst, BadIndex, BadDescriptor}
use Rattle.je_class.specs.declared.fault.ClassFault.TheVariants.{BadAttribute, Memory}
use Rattle.je_class.specs.declared.parts.TheConstants.{MAGIC, OLDEST_MAJOR, NEWEST_MAJOR}
use Rattle.je_class.specs.declared.member.Attribute.{Attribute}
use Rattle.je_class.specs.declared.member.Member.{Member}
use Rattle.je_class.specs.Class.{Class, IsClassIndex, IsTextIndex, IsDescriptorOf}

-- ---- tests

-- what is tested of a number once it is read
pub data Test : Type 0 where
  IsMagic : (number : ℕ) → Test
  IsVersion : (major : ℕ) → Test
  -- an index of this constant pool
  NamesClass : (consts : List Place) (index : ℕ) → Test
  NamesSuper : (consts : List Place) (index : ℕ) → Test
  NamesText : (consts : List Place) (index : ℕ) → Test
  NamesAttribute : (consts : List Place) (index : ℕ) → Test
  DescribesField : (consts : List Place) (index : ℕ) → Test
  DescribesMethod : (consts : List Place) (access index : ℕ) → Test

abbrev pub Passes : Test → Type 0
Passes (IsMagic number) = number ≡ MAGIC
Passes (IsVersion major) = (OLDEST_MAJOR ≤ major) × (major ≤ NEWEST_MAJOR)
Passes (NamesClass consts index) = IsClassIndex consts index
Passes (NamesSuper consts index) = (index ≡ 0) ⊎ IsClassIndex consts index
Passes (NamesText consts index) = IsTextIndex consts index
Passes (NamesAttribute consts index) = IsTextIndex consts index
Passes (DescribesField consts index) = IsSomeAnd (text_at consts index) FieldDescriptor
Passes (DescribesMethod consts access index) =
    IsSomeAnd (text_at consts index) (IsDescriptorOf access)

-- the fault where it does not pass, by the offset at which the number begins
abbrev pub fault_of : Test → ℕ → ClassFault
fault_of (IsMagic number) at = BadMagic
fault_of (IsVersion major) at = Version major
fault_of (NamesClass consts index) at = BadIndex at
fault_of (NamesSuper consts index) at = BadIndex at
fault_of (NamesText consts index) at = BadIndex at
fault_of (NamesAttribute consts index) at = BadAttribute at
fault_of (DescribesField consts index) at = BadDescriptor at
fault_of (DescribesMethod consts access index) at = BadDescriptor at

-- ---- the constant pool

-- a fault of the constant pool as one of the class file
abbrev pub pool_fault : ConstFault → ClassFault
pool_fault (pool.Truncated at) = Truncated at
pool_fault (pool.BadConst index) = BadConst index
pool_fault pool.Memory = Memory

-- the first fault of the constant pool that begins at an offset
abbrev pub IsPoolFault : List ℕ → ℕ → ClassFault → Type 0
IsPoolFault bytes at fault =
    (e : ConstFault) × in_pool.FirstFault bytes at e × (fault ≡ pool_fault e)

-- ---- the format

-- Its parts are numbers with these tests, runs of bytes, and the constant pool, which is the only
-- nested value.
abbrev pub class_format : Format Test (List Place) ClassFault
class_format = record {
  Passes = Passes;
  fault_of = fault_of;
  cut = Truncated;
  value_bytes = pool_layout;
  IsSoundValue = IsPool;
  IsValueFault = IsPoolFault;
}

abbrev pub Part : Type 0
Part = form.Part Test (List Place)

-- the bytes of the parts, one after the other
abbrev pub spelled : List Part → List ℕ
spelled parts = form.spelled class_format parts

-- ---- structures

-- an interface of the class (JVMS 4.1)
abbrev pub interface_parts : List Place → ℕ → List Part
interface_parts consts index = U2 index (NamesClass consts index ∷ []) ∷ []

-- attribute_info (JVMS 4.7)
abbrev pub attribute_parts : List Place → Attribute → List Part
attribute_parts consts a =
    U2 a.name (NamesAttribute consts a.name ∷ []) ∷ U4 (length a.bytes) [] ∷ Run a.bytes [] ∷ []

-- what field_info and method_info have in common, with the tests of the descriptor
abbrev pub member_parts : List Place → List Test → Member → List Part
member_parts consts tests m =
    U2 m.access [] ∷ U2 m.name (NamesText consts m.name ∷ []) ∷ U2 m.descriptor tests
    ∷ table_parts (attribute_parts consts) m.attributes

-- field_info (JVMS 4.5)
abbrev pub field_parts : List Place → Member → List Part
field_parts consts m =
    member_parts consts
    (NamesText consts m.descriptor ∷ DescribesField consts m.descriptor ∷ []) m

-- method_info (JVMS 4.6)
abbrev pub method_parts : List Place → Member → List Part
method_parts consts m =
    member_parts consts
    (NamesText consts m.descriptor ∷ DescribesMethod consts m.access m.descriptor ∷ []) m

-- ---- the class file

-- magic, minor_version and major_version
abbrev pub start_parts : ℕ → ℕ → ℕ → List Part
start_parts magic minor major =
    U4 magic (IsMagic magic ∷ []) ∷ U2 minor [] ∷ U2 major (IsVersion major ∷ []) ∷ []

-- access_flags, this_class and super_class
abbrev pub own_parts : List Place → ℕ → ℕ → ℕ → List Part
own_parts consts access this_class super_class =
    U2 access [] ∷ U2 this_class (NamesClass consts this_class ∷ [])
    ∷ U2 super_class (NamesSuper consts super_class ∷ []) ∷ []

-- the tables, each behind its count
abbrev pub lists_parts : List Place
    → List ℕ → List Member → List Member → List Attribute → List Part
lists_parts consts interfaces fields methods attributes =
    table_parts (interface_parts consts) interfaces
    ++ (table_parts (field_parts consts) fields
    ++ (table_parts (method_parts consts) methods
    ++ table_parts (attribute_parts consts) attributes))

-- ClassFile (JVMS 4.1), with a number in the place of its magic
abbrev pub parts : ℕ → Class → List Part
parts magic c =
    start_parts magic c.minor c.major
    ++ (Nested c.consts
    ∷ (own_parts c.consts c.access c.this_class c.super_class
    ++ lists_parts c.consts c.interfaces c.fields c.methods c.attributes))

abbrev pub class_parts : Class → List Part
class_parts c = parts MAGIC c

-- Each number of the class file fits its bytes, and each index names what it has to.
pub record IsSound (c : Class) : Type 0 where
  pub parts : AllByRecursion (IsSoundPart class_format) (class_parts c)
