-- The first test that fails where bytes are no constant pool.
use Rattle.std.specs.Prelude.{◌≡◌, ℕ, ◌+◌, ◌<◌, ◌^◌, Bool, true, false}
use Rattle.std.specs.Prelude.{List, [], ◌∷◌, ◌++◌, length, drop}
use Rattle.std.specs.List.{AllByRecursion}
use Rattle.je_base.specs.Bytes.{u2, IsThere}
use Rattle.je_base.specs.Parts.{Breaks}
use Rattle.je_consts.specs.declared.constant.Const.{Const}
use Rattle.je_consts.specs.declared.fault.ConstFault.{ConstFault}
use Rattle.je_consts.specs.declared.fault.ConstFault.TheVariants.{Truncated, BadConst}
use Rattle.je_consts.specs.declared.place.Place.{Place}
use Rattle.je_consts.specs.Pool.{tag, Fits, OfEntry, IsSpaced, IsLeastMisfit}
use Rattle.je_consts.specs.EntryParts.{EntryFault, Part, entry_format, tag_part, entry_parts}
use Rattle.je_consts.specs.Layout.{entries_layout}

-- the parts that may come where an entry is wanted: those of an entry, or a tag that no entry has
pub data MayCome : List Part → Type 0 where
  entry : (c : Const) → MayCome (entry_parts c)
  no_tag : (t : ℕ) → ((c : Const) → tag c ≡ t → ⊥) → MayCome (tag_part t ∷ [])

-- why no entry stands at an offset: such parts, and the first of them that does not stand there
abbrev pub IsNoEntry : List ℕ → ℕ → EntryFault → Type 0
IsNoEntry bytes at fault =
    (parts : List Part) × MayCome parts × Breaks entry_format bytes at parts fault

-- The bytes from one offset to another are the count and the entries of these places, which come
-- first of the pool's. `wide` says that a Long or Double is the last of them.
pub record Reaches (bytes : List ℕ) (at count : ℕ) (places : List Place) (wide : Bool) (here : ℕ)
    : Type 0 where
  pub count_fits : count < 2 ^ 16
  pub parts : drop at bytes ≡ u2 count ++ (entries_layout places ++ drop here bytes)
  pub here_is : here ≡ at + 2 + length (entries_layout places)
  pub fits : AllByRecursion (OfEntry Fits) places
  pub spaced : IsSpaced false places wide

-- The first test that fails, of those at the count, at each entry in order, and at last of what the
-- indexes name.
pub data FirstFault (bytes : List ℕ) (at : ℕ) : ConstFault → Type 0 where
  -- the count is cut off, or it is 0
  count_cut : length (drop at bytes) < 2 → FirstFault bytes at (Truncated at)
  count_zero : IsThere bytes at (u2 0) → FirstFault bytes at (BadConst 0)
  -- an entry is wanted, and none stands there
  no_entry : (count here : ℕ) (places : List Place) (fault : EntryFault)
      → Reaches bytes at count places false here → length places + 1 < count
      → IsNoEntry bytes here fault → FirstFault bytes at (fault (length places + 1))
  -- the last index is the first one of a Long or Double
  no_second : (count here : ℕ) (places : List Place)
      → Reaches bytes at count places true here → length places + 1 ≡ count
      → FirstFault bytes at (BadConst (length places))
  -- all entries are read, and an index names none that fits
  misfit : (count here : ℕ) (places : List Place) (index : ℕ)
      → Reaches bytes at count places false here → length places + 1 ≡ count
      → IsLeastMisfit places index → FirstFault bytes at (BadConst index)
