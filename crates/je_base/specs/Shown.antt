-- How the bytes of a text are shown.
use Rattle.std.specs.Prelude.{ℕ, Bool, ◌/◌, ◌%◌, Option, Some, None, List, [], ◌∷◌}
use Rattle.std.specs.Prelude.{if◌then◌else◌, nat_le, ◌&&◌}
use Rattle.std.specs.List.{flat_map, list_all}
use Rattle.std.specs.Char.{digit_char}
use Rattle.std.specs.Char.Escape.{backslash}
use Rattle.std.specs.Str.{encode_utf8_all}
use Rattle.je_base.specs.Ascii.{space, tilde, letter_x}
use Rattle.je_base.specs.Encoding.{decoded}

-- a byte from 20 to 7E as it is, and any other as `\x` and its two hexadecimal digits in lower case
abbrev pub byte_shown : ℕ → List ℕ
byte_shown b =
    if nat_le space b && nat_le b tilde then b ∷ []
    else backslash ∷ letter_x ∷ digit_char (b / 0x10) ∷ digit_char (b % 0x10) ∷ []

-- whether no character is below U+0020
abbrev pub is_plain : List ℕ → Bool
is_plain string = list_all (nat_le space) string

-- the string, where there is one and it is plain, and else each byte by itself
abbrev pub shown_as : Option (List ℕ) → List ℕ → List ℕ
shown_as (Some string) bytes =
    if is_plain string then encode_utf8_all string else flat_map byte_shown bytes
shown_as None bytes = flat_map byte_shown bytes

-- the text that shows the bytes, in UTF-8
abbrev pub shown : List ℕ → List ℕ
shown bytes = shown_as (decoded bytes) bytes
