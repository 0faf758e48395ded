-- The constant pool as the list of its places, and what its indexes name (JVMS 4.4).
--
-- There is a place for each index from 1 on: an entry, or the second of the two indexes of a Long
-- or Double.
use Rattle.std.specs.Prelude.{◌≡◌, ℕ, zero, suc, ◌+◌, ◌^◌, ◌<◌, ◌≤◌, Bool, true, false}
use Rattle.std.specs.Prelude.{List, [], ◌∷◌, length, Option, Some, None, IsSomeAnd, IfSome}
use Rattle.std.specs.Prelude.{option_and_then, slice_get, FitsSigned}
use Rattle.std.specs.Option.{option_map}
use Rattle.std.specs.List.{AllByRecursion}
use Rattle.std.specs.Int.{w32, w64}
use Rattle.je_base.specs.Text.{IsModifiedUtf8}
use Rattle.je_consts.specs.declared.constant.Const.{Const}
use Rattle.je_consts.specs.declared.constant.Const.TheVariants.{Utf8, Integer, Float, Long, Double}
use Rattle.je_consts.specs.declared.constant.Const.TheVariants.{Class, Str, Field, Method}
use Rattle.je_consts.specs.declared.constant.Const.TheVariants.{InterfaceMethod, NameAndType}
use Rattle.je_consts.specs.declared.constant.Const.TheVariants.{MethodHandle, MethodType}
use Rattle.je_consts.specs.declared.constant.Const.TheVariants.{InvokeDynamic}
use Rattle.je_consts.specs.declared.constant.MemberTag.{MemberTag}
use Rattle.je_consts.specs.declared.constant.MemberTag.TheVariants as tags
use Rattle.je_consts.specs.declared.place.Place.{Place}
use Rattle.je_consts.specs.declared.place.Place.TheVariants.{Entry, Second}
use Rattle.je_consts.specs.Tags.{CONSTANT_Utf8, CONSTANT_Integer, CONSTANT_Float, CONSTANT_Long}
use Rattle.je_consts.specs.Tags.{CONSTANT_Double, CONSTANT_Class, CONSTANT_String}
use Rattle.je_consts.specs.Tags.{CONSTANT_Fieldref, CONSTANT_Methodref, CONSTANT_InterfaceMethodref}
use Rattle.je_consts.specs.Tags.{CONSTANT_NameAndType, CONSTANT_MethodHandle, CONSTANT_MethodType}
use Rattle.je_consts.specs.Tags.{CONSTANT_InvokeDynamic, IsKind}

-- the tag of an entry (JVMS 4.4, Table 4.4-A)
abbrev pub tag : Const → ℕ
tag (Utf8 text) = CONSTANT_Utf8
tag (Integer n) = CONSTANT_Integer
tag (Float bits) = CONSTANT_Float
tag (Long n) = CONSTANT_Long
tag (Double bits) = CONSTANT_Double
tag (Class name) = CONSTANT_Class
tag (Str text) = CONSTANT_String
tag (Field class member) = CONSTANT_Fieldref
tag (Method class member) = CONSTANT_Methodref
tag (InterfaceMethod class member) = CONSTANT_InterfaceMethodref
tag (NameAndType name descriptor) = CONSTANT_NameAndType
tag (MethodHandle kind member) = CONSTANT_MethodHandle
tag (MethodType descriptor) = CONSTANT_MethodType
tag (InvokeDynamic bootstrap member) = CONSTANT_InvokeDynamic

-- Long and Double take two indexes (JVMS 4.4.5)
abbrev pub is_wide : Const → Bool
is_wide (Long n) = true
is_wide (Double bits) = true
is_wide _ = false

-- the places that an entry takes
abbrev pub taken_by : Bool → Const → List Place
taken_by true c = Entry c ∷ Second ∷ []
taken_by false c = Entry c ∷ []

abbrev pub places_of : Const → List Place
places_of c = taken_by (is_wide c) c

abbrev pub entry_of : Place → Option Const
entry_of (Entry c) = Some c
entry_of Second = None

-- the entry at an index, which counts from 1
abbrev pub const_at : List Place → ℕ → Option Const
const_at places zero = None
const_at places (suc i) = option_and_then entry_of (slice_get places i)

-- the tag of the entry at an index
abbrev pub tag_at : List Place → ℕ → Option ℕ
tag_at places i = option_map tag (const_at places i)

-- the text of the CONSTANT_Utf8 at an index
abbrev pub text_of : Const → Option (List ℕ)
text_of (Utf8 text) = Some text
text_of _ = None

abbrev pub text_at : List Place → ℕ → Option (List ℕ)
text_at places i = option_and_then text_of (const_at places i)

-- the name of the CONSTANT_Class at an index
abbrev pub class_of : List Place → Const → Option (List ℕ)
class_of places (Class name) = text_at places name
class_of places _ = None

abbrev pub class_at : List Place → ℕ → Option (List ℕ)
class_at places i = option_and_then (class_of places) (const_at places i)

-- the CONSTANT_NameAndType at an index names this name and this descriptor
abbrev pub NamesAndTypes : List Place → ℕ → List ℕ → List ℕ → Type 0
NamesAndTypes places i name descriptor =
    (n : ℕ) × (d : ℕ) × (const_at places i ≡ Some (NameAndType n d))
    × (text_at places n ≡ Some name) × (text_at places d ≡ Some descriptor)

-- the name and the descriptor of the CONSTANT_NameAndType at an index (JVMS 4.4.6)
abbrev pub name_and_type_of : List Place → Const → Option (List ℕ × List ℕ)
name_and_type_of places (NameAndType name descriptor) =
    option_and_then (λ n. option_and_then (λ d. Some (n, d)) (text_at places descriptor))
    (text_at places name)
name_and_type_of places _ = None

abbrev pub name_and_type_at : List Place → ℕ → Option (List ℕ × List ℕ)
name_and_type_at places i = option_and_then (name_and_type_of places) (const_at places i)

-- the class's name, and the name and the descriptor of the CONSTANT_NameAndType, at these indexes
abbrev pub named_member :
    MemberTag → List Place → ℕ → ℕ → Option (MemberTag × List ℕ × List ℕ × List ℕ)
named_member kind places class member =
    option_and_then
    (λ o. option_and_then (λ m. Some (kind, o, m.0, m.1)) (name_and_type_at places member))
    (class_at places class)

abbrev pub member_of_entry : List Place → Const → Option (MemberTag × List ℕ × List ℕ × List ℕ)
member_of_entry places (Field class member) = named_member tags.Field places class member
member_of_entry places (Method class member) = named_member tags.Method places class member
member_of_entry places (InterfaceMethod class member) =
    named_member tags.InterfaceMethod places class member
member_of_entry places _ = None

-- the field or method at an index: which of the three structures, the name of its class, its name
-- and its descriptor (JVMS 4.4.2)
abbrev pub member_at : List Place → ℕ → Option (MemberTag × List ℕ × List ℕ × List ℕ)
member_at places i = option_and_then (member_of_entry places) (const_at places i)

-- a field, a method or an interface's method
abbrev pub IsMemberTag : ℕ → Type 0
IsMemberTag t = (CONSTANT_Fieldref ≤ t) × (t ≤ CONSTANT_InterfaceMethodref)

-- what has to stand at an index that an entry names
abbrev pub IsUtf8At : List Place → ℕ → Type 0
IsUtf8At places i = tag_at places i ≡ Some CONSTANT_Utf8

abbrev pub IsClassAt : List Place → ℕ → Type 0
IsClassAt places i = tag_at places i ≡ Some CONSTANT_Class

abbrev pub IsNameAndTypeAt : List Place → ℕ → Type 0
IsNameAndTypeAt places i = tag_at places i ≡ Some CONSTANT_NameAndType

abbrev pub IsMemberAt : List Place → ℕ → Type 0
IsMemberAt places i = IsSomeAnd (tag_at places i) IsMemberTag

-- Each index in the entry names an entry of a tag that fits (JVMS 4.4.1 to 4.4.10). The number of a
-- bootstrap method is no index of the pool.
abbrev pub Names : List Place → Const → Type 0
Names places (Class name) = IsUtf8At places name
Names places (Str text) = IsUtf8At places text
Names places (Field class member) = IsClassAt places class × IsNameAndTypeAt places member
Names places (Method class member) = IsClassAt places class × IsNameAndTypeAt places member
Names places (InterfaceMethod class member) =
    IsClassAt places class × IsNameAndTypeAt places member
Names places (NameAndType name descriptor) = IsUtf8At places name × IsUtf8At places descriptor
Names places (MethodHandle kind member) = IsMemberAt places member
Names places (MethodType descriptor) = IsUtf8At places descriptor
Names places (InvokeDynamic bootstrap member) = IsNameAndTypeAt places member
Names places _ = Unit {0}

-- Each number of the entry fits the bytes that it is written in, a text has at most 65,535 bytes
-- and is in modified UTF-8 (JVMS 4.4.7), and a kind is 1 to 9 (JVMS 4.4.8).
abbrev pub Fits : Const → Type 0
Fits (Utf8 text) = (length text < 2 ^ 16) × IsModifiedUtf8 text
Fits (Integer n) = FitsSigned w32 n
Fits (Float bits) = bits < 2 ^ 32
Fits (Long n) = FitsSigned w64 n
Fits (Double bits) = bits < 2 ^ 64
Fits (Class name) = name < 2 ^ 16
Fits (Str text) = text < 2 ^ 16
Fits (Field class member) = (class < 2 ^ 16) × (member < 2 ^ 16)
Fits (Method class member) = (class < 2 ^ 16) × (member < 2 ^ 16)
Fits (InterfaceMethod class member) = (class < 2 ^ 16) × (member < 2 ^ 16)
Fits (NameAndType name descriptor) = (name < 2 ^ 16) × (descriptor < 2 ^ 16)
Fits (MethodHandle kind member) = IsKind kind × (member < 2 ^ 16)
Fits (MethodType descriptor) = descriptor < 2 ^ 16
Fits (InvokeDynamic bootstrap member) = (bootstrap < 2 ^ 16) × (member < 2 ^ 16)

-- what holds of the entry at a place
abbrev pub OfEntry : (Const → Type 0) → Place → Type 0
OfEntry P (Entry c) = P c
OfEntry P Second = Unit {0}

-- the place is that of a Long or Double
abbrev pub leads_second : Place → Bool
leads_second (Entry c) = is_wide c
leads_second Second = false

-- A Second stands exactly after each Long and Double. `wide` says that one stands before these
-- places, and `last` that one is the last of them.
abbrev pub IsSpaced : Bool → List Place → Bool → Type 0
IsSpaced wide [] last = wide ≡ last
IsSpaced wide (Entry c ∷ places) last = (wide ≡ false) × IsSpaced (is_wide c) places last
IsSpaced wide (Second ∷ places) last = (wide ≡ true) × IsSpaced false places last

-- The places of a constant pool (JVMS 4.4). The count in the file is one more than their number
-- (JVMS 4.1).
pub record IsPool (places : List Place) : Type 0 where
  pub fits : AllByRecursion (OfEntry Fits) places
  pub spaced : IsSpaced false places false
  pub names : AllByRecursion (OfEntry (Names places)) places
  pub count : length places + 1 < 2 ^ 16

-- the least index whose entry names one that does not fit
pub record IsLeastMisfit (places : List Place) (index : ℕ) : Type 0 where
  pub misfit : IsSomeAnd (const_at places index) (λ c. Names places c → ⊥)
  pub before : (i : ℕ) → i < index → IfSome (const_at places i) (Names places)
