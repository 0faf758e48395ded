-- Whole numbers (JLS SE 8 3.10.1), and where a number with a fraction begins (3.10.2).
use Rattle.std.specs.Prelude.{ℕ, ◌+◌, ◌-◌, ◌*◌, ◌^◌, List, [], ◌∷◌, length, drop, Bool, true, false}
use Rattle.std.specs.Prelude.{◌==◌, ◌&&◌, ◌||◌, nat_le, if◌then◌else◌, Result, Ok, Err}
use Rattle.std.specs.List.{fold, take_while}
use Rattle.std.specs.Char.{digit_value}
use Rattle.je_tokens.specs.declared.pieces.Piece.{Piece}
use Rattle.je_tokens.specs.declared.pieces.Piece.TheVariants.{Lexeme}
use Rattle.je_tokens.specs.declared.syntax.SyntaxKind.{SyntaxKind}
use Rattle.je_tokens.specs.declared.syntax.SyntaxKind.TheVariants as fault
use Rattle.je_tokens.specs.declared.token.TokenKind.TheVariants as kind
use Rattle.je_tokens.specs.Characters.{dot, zero_digit, is_digit, is_octal, is_hexadecimal}

-- ---- what stands at the front of a text

-- the first character passes the test
abbrev pub begins : (ℕ → Bool) → List ℕ → Bool
begins test [] = false
begins test (c ∷ text) = test c

-- `+` or `-`
abbrev pub is_sign : ℕ → Bool
is_sign c = c == 43 || c == 45

-- `e` or `E`
abbrev pub is_exponent_letter : ℕ → Bool
is_exponent_letter c = c == 101 || c == 69

-- `f`, `F`, `d` or `D`
abbrev pub is_float_letter : ℕ → Bool
is_float_letter c = c == 102 || (c == 70 || (c == 100 || c == 68))

-- `l` or `L`
abbrev pub is_long_letter : ℕ → Bool
is_long_letter c = c == 108 || c == 76

abbrev pub is_dot : ℕ → Bool
is_dot c = c == dot

-- an exponent: its letter, a sign or none, and a digit
abbrev pub signed_digit : List ℕ → Bool
signed_digit [] = false
signed_digit (c ∷ text) = is_digit c || (is_sign c && begins is_digit text)

abbrev pub begins_exponent : List ℕ → Bool
begins_exponent [] = false
begins_exponent (c ∷ text) = is_exponent_letter c && signed_digit text

-- so goes on a number that is no whole one
unfoldable pub begins_fraction : List ℕ → Bool
begins_fraction text = begins is_dot text || (begins is_float_letter text || begins_exponent text)

-- `0x` and a digit
abbrev pub begins_hexadecimal : List ℕ → Bool
begins_hexadecimal [] = false
begins_hexadecimal (c ∷ []) = false
begins_hexadecimal (c ∷ x ∷ text) = (c == zero_digit && x == 120) && begins is_hexadecimal text

-- ---- values

-- the number that digits write in a base
abbrev pub number : ℕ → List ℕ → ℕ
number base digits = fold (λ value digit. value * base + digit_value digit) 0 digits

-- The greatest value: of a decimal number that of its type, and the next one where `-` stands
-- before it; others may fill the bits of their type.
abbrev pub greatest : Bool → Bool → Bool → ℕ
greatest decimal long negative =
    if decimal then ((if long then 2 ^ 63 else 2 ^ 31) - (if negative then 0 else 1))
    else ((if long then 2 ^ 64 else 2 ^ 32) - 1)

-- the token of digits in a base, behind some characters, as `0x`
unfoldable pub whole_at : Bool → Bool → ℕ → ℕ → List ℕ → List ℕ → Result Piece SyntaxKind
whole_at negative decimal base before digits behind =
    let long = begins is_long_letter behind in
    let value = number base digits in
    if nat_le value (greatest decimal long negative)
    then Ok (Lexeme (before + length digits + (if long then 1 else 0))
    (kind.Whole value long decimal))
    else Err fault.NumberTooLarge

unfoldable pub hexadecimal_at : List ℕ → Result Piece SyntaxKind
hexadecimal_at text =
    let digits = take_while is_hexadecimal (drop 2 text) in
    let behind = drop (length digits) (drop 2 text) in
    if begins is_dot behind then Err fault.FloatNumber
    else whole_at false false 16 2 digits behind

-- octal digits, of which the first is `0`; that one alone is a decimal number
unfoldable pub octal_at : List ℕ → Result Piece SyntaxKind
octal_at text =
    let digits = take_while is_octal text in
    whole_at false (length digits == 1) 8 0 digits (drop (length digits) text)

unfoldable pub decimal_at : Bool → List ℕ → Result Piece SyntaxKind
decimal_at negative text =
    let digits = take_while is_digit text in
    whole_at negative true 10 0 digits (drop (length digits) text)

-- a number, of which the first digit is there
unfoldable pub number_at : Bool → List ℕ → Result Piece SyntaxKind
number_at negative text =
    if begins_hexadecimal text then hexadecimal_at text
    else if begins_fraction (drop (length (take_while is_digit text)) text)
    then Err fault.FloatNumber
    else if begins (λ c. c == zero_digit) text then octal_at text
    else decimal_at negative text
