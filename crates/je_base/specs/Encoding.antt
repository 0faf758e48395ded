-- Modified UTF-8, as the encoding of a string (JVMS SE 8 4.4.7).
use Rattle.std.specs.Prelude.{◌≡◌, ℕ, ◌+◌, ◌-◌, ◌/◌, ◌%◌, ◌^◌, ◌<◌, Option, Some, None}
use Rattle.std.specs.Prelude.{List, [], ◌∷◌, ◌++◌, if◌then◌else◌, nat_le, nat_lt, ◌&&◌, true}
use Rattle.std.specs.List.{flat_map}
use Rattle.std.specs.Str.{all_scalars, chars, bytes_eq}
use Rattle.std.specs.String.{string_bytes}
use Rattle.std.specs.Char.{IsScalar}
use Rattle.std.specs.Char.Utf16.{utf16_lossy_chars}
use Rattle.std.specs.declared.string.String.{String}

-- the high bits that mark the first of two bytes, the first of three, and each byte after it
abbrev pub first_of_two : ℕ
first_of_two = 0b1100_0000

abbrev pub first_of_three : ℕ
first_of_three = 0b1110_0000

abbrev pub continuation : ℕ
continuation = 0b1000_0000

-- The bytes of a UTF-16 code unit. 01 to 7F is itself; 00 and 80 to 7FF are two bytes, 110 and bits
-- 10 to 6, then 10 and bits 5 to 0; 800 to FFFF are three, 1110 and bits 15 to 12, and 10 and six
-- bits twice.
abbrev pub unit : ℕ → List ℕ
unit u =
    if nat_le 0x01 u && nat_le u 0x7f then u ∷ []
    else (if nat_le u 0x7ff then (first_of_two + u / 0x40) ∷ (continuation + u % 0x40) ∷ []
    else (first_of_three + u / 0x1000) ∷ (continuation + u / 0x40 % 0x40)
    ∷ (continuation + u % 0x40) ∷ [])

-- the first supplementary character, and the first high and the first low surrogate
abbrev pub supplementary : ℕ
supplementary = 0x1_0000

abbrev pub high_surrogate : ℕ
high_surrogate = 0xd800

abbrev pub low_surrogate : ℕ
low_surrogate = 0xdc00

-- The code units of a character: itself, and of a supplementary one (above U+FFFF) the high
-- surrogate and then the low one.
abbrev pub char_units : ℕ → List ℕ
char_units c =
    if nat_lt c supplementary then c ∷ []
    else (high_surrogate + (c - supplementary) / 0x400)
    ∷ (low_surrogate + (c - supplementary) % 0x400) ∷ []

-- the bytes of a character
abbrev pub char_bytes : ℕ → List ℕ
char_bytes c = flat_map unit (char_units c)

-- the bytes of a string of these characters
abbrev pub encoding : List ℕ → List ℕ
encoding string = flat_map char_bytes string

-- the characters of a `String`
abbrev pub characters : {A : Type 0} → String A → List ℕ
characters s = chars (string_bytes s)

-- these characters are a string whose encoding is the bytes
abbrev pub IsDecoded : List ℕ → List ℕ → Type 0
IsDecoded bytes string = (all_scalars string ≡ true) × (encoding string ≡ bytes)

-- no string has the bytes as its encoding
abbrev pub EncodesNone : List ℕ → Type 0
EncodesNone bytes = (string : List ℕ) → IsDecoded bytes string → ⊥

-- every string that has the bytes as its encoding is this one
abbrev pub EncodesOnly : List ℕ → List ℕ → Type 0
EncodesOnly bytes string = (other : List ℕ) → IsDecoded bytes other → other ≡ string

-- The string that the bytes encode, where they encode one. The candidate is what `chars`, which
-- reads the bytes of a code unit as those of a character, and then `utf16_lossy_chars`, which joins
-- surrogates, give.
abbrev pub decoded : List ℕ → Option (List ℕ)
decoded bytes =
    let string = utf16_lossy_chars (chars bytes) in
    if all_scalars string && bytes_eq (encoding string) bytes then Some string else None

-- no code unit comes first in the bytes
abbrev pub BeginsNoUnit : List ℕ → Type 0
BeginsNoUnit bytes = (u : ℕ) (rest : List ℕ) → u < 2 ^ 16 → bytes ≡ unit u ++ rest → ⊥

-- no character comes first in the bytes
abbrev pub BeginsNoChar : List ℕ → Type 0
BeginsNoChar bytes = (c : ℕ) (rest : List ℕ) → IsScalar c → bytes ≡ char_bytes c ++ rest → ⊥
