-- The bytes of a constant pool, entry after entry (JVMS 4.4).
use Rattle.std.specs.Prelude.{◌≡◌, ℕ, ◌+◌, ◌≤◌, List, [], ◌++◌, length, slice_range}
use Rattle.std.specs.List.{flat_map}
use Rattle.je_base.specs.Bytes.{u2}
use Rattle.je_base.specs.Parts.{spelled}
use Rattle.je_consts.specs.declared.constant.Const.{Const}
use Rattle.je_consts.specs.declared.place.Place.{Place}
use Rattle.je_consts.specs.declared.place.Place.TheVariants.{Entry, Second}
use Rattle.je_consts.specs.EntryParts.{entry_format, entry_parts}
use Rattle.je_consts.specs.Pool.{IsPool}

-- the bytes of an entry, part after part
abbrev pub const_layout : Const → List ℕ
const_layout c = spelled entry_format (entry_parts c)

-- the second index of a Long or Double has no bytes of its own
abbrev pub place_layout : Place → List ℕ
place_layout (Entry c) = const_layout c
place_layout Second = []

abbrev pub entries_layout : List Place → List ℕ
entries_layout places = flat_map place_layout places

-- constant_pool_count and constant_pool (JVMS 4.1)
abbrev pub pool_layout : List Place → List ℕ
pool_layout places = u2 (length places + 1) ++ entries_layout places

-- The bytes are the count and the entries of this constant pool, one after the other, and nothing
-- else.
pub record PoolBytes (bytes : List ℕ) (places : List Place) : Type 0 where
  pub layout : bytes ≡ pool_layout places
  pub pool : IsPool places

-- the bytes from one offset to another are those of this constant pool
pub record IsPoolAt (bytes : List ℕ) (at end : ℕ) (places : List Place) : Type 0 where
  pub order : at ≤ end
  pub within : end ≤ length bytes
  pub spelled : PoolBytes (slice_range bytes at end) places
