-- Formats of bytes (JVMS 4): numbers, runs and tables, and what stands at an offset. Numbers are
-- big-endian.
use Rattle.std.specs.Prelude.{◌≡◌, ℕ, ◌+◌, ◌^◌, ◌<◌, ◌≤◌, List, [], ◌∷◌, ◌++◌, length, drop}
use Rattle.std.specs.List.{flat_map}
use Rattle.std.specs.Int.{w16, w32, w64, to_be_bytes}
use Rattle.je_base.specs.declared.bytes.Cut.{Cut}

-- ---- the words of layouts

-- numbers of one, two, four and eight bytes
abbrev pub u1 : ℕ → List ℕ
u1 n = n ∷ []

abbrev pub u2 : ℕ → List ℕ
u2 n = to_be_bytes w16 n

abbrev pub u4 : ℕ → List ℕ
u4 n = to_be_bytes w32 n

abbrev pub u8 : ℕ → List ℕ
u8 n = to_be_bytes w64 n

-- a count, and that many structures (JVMS 4)
abbrev pub table : {A : Type 0} → (A → List ℕ) → List A → List ℕ
table layout items = u2 (length items) ++ flat_map layout items

-- attribute_info (JVMS 4.7): the index of its name, and its bytes behind their length
abbrev pub attribute_info : ℕ → List ℕ → List ℕ
attribute_info name bytes = u2 name ++ (u4 (length bytes) ++ bytes)

-- ---- what stands at an offset

-- the bytes of a part stand at an offset
abbrev pub IsThere : List ℕ → ℕ → List ℕ → Type 0
IsThere bytes at part = drop at bytes ≡ part ++ drop (at + length part) bytes

-- fewer bytes are left from an offset on than a part has that is to stand there
abbrev pub IsCut : List ℕ → ℕ → ℕ → Cut → Type 0
IsCut bytes at size cut = (length (drop at bytes) < size) × (cut.0 ≡ at)

-- Numbers that fit and have the same bytes are the same; one run of so many bytes stands at an
-- offset; and what stands there is not cut off.
pub record OneReading : Type 0 where
  pub two : (m n : ℕ) → m < 2 ^ 16 → n < 2 ^ 16 → u2 m ≡ u2 n → m ≡ n
  pub four : (m n : ℕ) → m < 2 ^ 32 → n < 2 ^ 32 → u4 m ≡ u4 n → m ≡ n
  pub eight : (m n : ℕ) → m < 2 ^ 64 → n < 2 ^ 64 → u8 m ≡ u8 n → m ≡ n
  pub run : (bytes run other : List ℕ) (at : ℕ) → length run ≡ length other → IsThere bytes at run
      → IsThere bytes at other → run ≡ other
  pub whole : (bytes run : List ℕ) (at : ℕ) → IsThere bytes at run
      → length run ≤ length (drop at bytes)
