-- Literals of characters and strings, and their escapes (JLS SE 8 3.10.4 to 3.10.6).
use Rattle.std.specs.Prelude.{ℕ, zero, suc, ◌+◌, List, [], ◌∷◌, ◌++◌, length, take, Bool, false}
use Rattle.std.specs.Prelude.{◌==◌, ◌&&◌, not, nat_le, nat_lt, if◌then◌else◌, Result, Ok, Err}
use Rattle.std.specs.Prelude.{Option, Some, None}
use Rattle.std.specs.Option.{option_map}
use Rattle.std.specs.List.{take_while}
use Rattle.je_base.specs.Encoding.{char_units}
use Rattle.je_tokens.specs.declared.pieces.Piece.{Piece}
use Rattle.je_tokens.specs.declared.pieces.Piece.TheVariants.{Lexeme}
use Rattle.je_tokens.specs.declared.syntax.SyntaxKind.{SyntaxKind}
use Rattle.je_tokens.specs.declared.syntax.SyntaxKind.TheVariants as fault
use Rattle.je_tokens.specs.declared.token.TokenKind.TheVariants as kind
use Rattle.je_tokens.specs.Characters.{line_feed, quote, double_quote, backslash}
use Rattle.je_tokens.specs.Characters.{is_octal, is_hexadecimal, text_of_units}
use Rattle.je_tokens.specs.Numbers.{number}

-- How many characters stand before the mark that closes a literal, on the same line. A backslash
-- escapes the character behind it.
abbrev pub closing : ℕ → List ℕ → Bool → Option ℕ
closing mark [] escaped = None
closing mark (c ∷ text) escaped =
    if c == line_feed then None
    else if not escaped && c == mark then Some 0
    else option_map (λ n. n + 1) (closing mark text (not escaped && c == backslash))

-- An escape, behind its backslash: the code unit that it is, and its characters there.

-- up to three octal digits, or two where the first is above 3
unfoldable pub octal_escape : List ℕ → ℕ → Option (ℕ × ℕ)
octal_escape text first =
    let digits = take_while is_octal (take (if nat_le first 51 then 3 else 2) text) in
    Some (number 8 digits, length digits)

-- `u`, and four hexadecimal digits
unfoldable pub unicode_escape : List ℕ → Option (ℕ × ℕ)
unicode_escape text =
    let digits = take_while is_hexadecimal (take 4 text) in
    if length digits == 4 then Some (number 16 digits, 5) else None

-- the code unit of an escape of one letter
unfoldable pub letter_escape : ℕ → Option ℕ
letter_escape c =
    if c == 98 then Some 8
    else if c == 116 then Some 9
    else if c == 110 then Some 10
    else if c == 102 then Some 12
    else if c == 114 then Some 13
    else if c == double_quote then Some double_quote
    else if c == quote then Some quote
    else if c == backslash then Some backslash
    else None

unfoldable pub escape_at : List ℕ → Option (ℕ × ℕ)
escape_at [] = None
escape_at (c ∷ text) =
    if c == 117 then unicode_escape text
    else if is_octal c then octal_escape (c ∷ text) c
    else option_map (λ code. (code, 1)) (letter_escape c)

-- what follows an escape, where there is one
abbrev pub behind_escape : Option (ℕ × ℕ) → (ℕ → Option (List ℕ)) → Option (List ℕ)
behind_escape None units = None
behind_escape (Some escape) units = option_map (λ more. escape.0 ∷ more) (units escape.1)

-- The code units of a literal's content, where each of its escapes is one. So many characters at
-- its front belong to an escape before it.
abbrev pub units_at : List ℕ → ℕ → Option (List ℕ)
units_at [] skipped = Some []
units_at (c ∷ text) (suc skipped) = units_at text skipped
units_at (c ∷ text) zero =
    if c == backslash then behind_escape (escape_at text) (λ skipped. units_at text skipped)
    else option_map (λ more. char_units c ++ more) (units_at text 0)

abbrev pub units : List ℕ → Option (List ℕ)
units content = units_at content 0

-- no string literal has a longer text
abbrev pub most_bytes : ℕ
most_bytes = 65535

-- of content that is so many characters long, with its two marks
abbrev pub character_of : ℕ → Option (List ℕ) → Result Piece SyntaxKind
character_of n None = Err fault.BadEscape
character_of n (Some []) = Err fault.BadChar
character_of n (Some (code ∷ [])) = Ok (Lexeme (n + 2) (kind.Character code))
character_of n (Some (code ∷ second ∷ more)) = Err fault.BadChar

abbrev pub string_of : ℕ → Option (List ℕ) → Result Piece SyntaxKind
string_of n None = Err fault.BadEscape
string_of n (Some codes) =
    if nat_lt most_bytes (length (text_of_units codes)) then Err fault.LiteralTooLong
    else Ok (Lexeme (n + 2) (kind.Literal (text_of_units codes)))

-- a literal, of which the text is what stands behind its first mark
abbrev pub character_closed : List ℕ → Option ℕ → Result Piece SyntaxKind
character_closed text None = Err fault.Unclosed
character_closed text (Some n) = character_of n (units (take n text))

abbrev pub string_closed : List ℕ → Option ℕ → Result Piece SyntaxKind
string_closed text None = Err fault.Unclosed
string_closed text (Some n) = string_of n (units (take n text))

unfoldable pub character_at : List ℕ → Result Piece SyntaxKind
character_at text = character_closed text (closing quote text false)

unfoldable pub string_at : List ℕ → Result Piece SyntaxKind
string_at text = string_closed text (closing double_quote text false)
