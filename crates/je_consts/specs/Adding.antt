-- Adding entries to a constant pool: what an add may answer, and the places that it leaves.
use Rattle.std.specs.Prelude.{◌≡◌, ℕ, ◌+◌, ◌<◌, ◌≤◌, ◌⊎◌, List, ◌++◌, length, Some, Result, Ok, Err}
use Rattle.je_consts.specs.declared.constant.Const.{Const}
use Rattle.je_consts.specs.declared.constant.Const.TheVariants.{Utf8, Class, Field, Method}
use Rattle.je_consts.specs.declared.constant.Const.TheVariants.{InterfaceMethod, NameAndType}
use Rattle.je_consts.specs.declared.constant.Const.TheVariants.{MethodHandle}
use Rattle.je_consts.specs.declared.constant.MemberTag.{MemberTag}
use Rattle.je_consts.specs.declared.constant.MemberTag.TheVariants as tags
use Rattle.je_consts.specs.declared.fault.PoolStop.{PoolStop}
use Rattle.je_consts.specs.declared.fault.PoolStop.TheVariants as stops
use Rattle.je_consts.specs.declared.place.Place.{Place}
use Rattle.je_consts.specs.Tags.{IsKind, most_count, most_bytes}
use Rattle.je_consts.specs.Pool.{places_of, const_at, class_at, NamesAndTypes}

-- a text has at most 65,535 bytes, and a handle's kind is 1 to 9
abbrev pub IsLawful : Const → Type 0
IsLawful (Utf8 text) = length text ≤ most_bytes
IsLawful (MethodHandle kind member) = IsKind kind
IsLawful _ = Unit {0}

-- no index holds this entry
abbrev pub IsMissing : List Place → Const → Type 0
IsMissing places c = (i : ℕ) → const_at places i ≡ Some c → ⊥

-- the least of the indexes that hold this entry
pub record IsLeastIndex (places : List Place) (c : Const) (index : ℕ) : Type 0 where
  pub here : const_at places index ≡ Some c
  pub least : (i : ℕ) → const_at places i ≡ Some c → index ≤ i

-- the entry is not there, and with it the pool has a count of at most 65,535
pub record HasRoom (places : List Place) (c : Const) : Type 0 where
  pub missing : IsMissing places c
  pub within : length places + length (places_of c) + 1 ≤ most_count

-- the entry stands at the end, where none held it before and there was room
pub record IsAppended (old : List Place) (c : Const) (new : List Place) (index : ℕ) : Type 0 where
  pub room : HasRoom old c
  pub index_is : index ≡ length old + 1
  pub places_are : new ≡ old ++ places_of c

-- The entry stands at this index of the new places. It is the least one where the entry was there
-- already, and then nothing changes.
abbrev pub Added : List Place → Const → List Place → ℕ → Type 0
Added old c new index = (IsLeastIndex old c index × (new ≡ old)) ⊎ IsAppended old c new index

-- the entry is not there, and with it the pool would have this count
pub record IsFull (places : List Place) (c : Const) (count : ℕ) : Type 0 where
  pub missing : IsMissing places c
  pub count_is : count ≡ length places + length (places_of c) + 1
  pub past : most_count < count

-- A full pool says so, also where memory is short. Only an entry that is not there and has room
-- wants memory.
abbrev pub Refuses : List Place → Const → PoolStop → Type 0
Refuses places c (stops.Full count) = IsFull places c count
Refuses places c stops.Memory = HasRoom places c

-- What adding this entry may answer, and what it leaves. A refusal changes nothing.
abbrev pub Adds : Const → List Place → Result ℕ PoolStop → List Place → Type 0
Adds c old (Ok index) new = Added old c new index
Adds c old (Err e) new = Refuses old c e × (new ≡ old)

-- the old places come first of the new ones, so that each index keeps what it holds
pub record Keeps (old new : List Place) : Type 0 where
  pub front : (more : List Place) × (new ≡ old ++ more)
  pub content : (i : ℕ) (c : Const) → const_at old i ≡ Some c → const_at new i ≡ Some c

-- what a call may answer for some places, and the places that it leaves
abbrev pub Effect : Type 1
Effect = List Place → Result ℕ PoolStop → List Place → Type 0

-- One add, and then, unless it was refused, the next, which is told the index. After a refusal what
-- was added before stands. So the answer is that the pool is full exactly where an add in the row
-- is so refused, and want of memory is answered only by an add that has room.
abbrev pub Then : Effect → (ℕ → Effect) → Effect
Then first next old result new =
    ((e : PoolStop) × (result ≡ Err e) × first old (Err e) new)
    ⊎ ((index : ℕ) × (mid : List Place) × first old (Ok index) mid × next index mid result new)

-- a text, and the class of this name
abbrev pub AddsClass : List ℕ → Effect
AddsClass name = Then (Adds (Utf8 name)) (λ n. Adds (Class n))

-- a name, a descriptor, and the two together
abbrev pub AddsNameAndType : List ℕ → List ℕ → Effect
AddsNameAndType name descriptor =
    Then (Adds (Utf8 name)) (λ n. Then (Adds (Utf8 descriptor)) (λ d. Adds (NameAndType n d)))

abbrev pub member_of : MemberTag → ℕ → ℕ → Const
member_of tags.Field class member = Field class member
member_of tags.Method class member = Method class member
member_of tags.InterfaceMethod class member = InterfaceMethod class member

-- the class of this owner, the name and descriptor, and the member
abbrev pub AddsMember : MemberTag → List ℕ → List ℕ → List ℕ → Effect
AddsMember kind owner name descriptor =
    Then (AddsClass owner) (λ class.
    Then (AddsNameAndType name descriptor) (λ member. Adds (member_of kind class member)))

-- the member at an index is of this class, and has this name and this descriptor
abbrev pub NamesMember : MemberTag → List Place → ℕ → List ℕ → List ℕ → List ℕ → Type 0
NamesMember kind places i owner name descriptor =
    (class : ℕ) × (member : ℕ) × (const_at places i ≡ Some (member_of kind class member))
    × (class_at places class ≡ Some owner) × NamesAndTypes places member name descriptor
