-- What a text begins with: white space, a comment or a token (JLS SE 8 3.5 to 3.7).
use Rattle.std.specs.Prelude.{ℕ, ◌+◌, List, [], ◌∷◌, codes, drop, Bool, ◌==◌, ◌&&◌, nat_eq}
use Rattle.std.specs.Prelude.{if◌then◌else◌, Option, Some, None, Result, Ok, Err}
use Rattle.std.specs.Option.{option_map}
use Rattle.std.specs.List.{prefix_len, starts_with}
use Rattle.je_tokens.specs.declared.pieces.Piece.{Piece}
use Rattle.je_tokens.specs.declared.pieces.Piece.TheVariants.{Gap, Lexeme}
use Rattle.je_tokens.specs.declared.syntax.SyntaxKind.{SyntaxKind}
use Rattle.je_tokens.specs.declared.syntax.SyntaxKind.TheVariants as fault
use Rattle.je_tokens.specs.Characters.{dollar, dot, quote, double_quote}
use Rattle.je_tokens.specs.Characters.{is_white, is_digit, is_on_line, begins_name}
use Rattle.je_tokens.specs.Words.{word_at, dollar_at}
use Rattle.je_tokens.specs.Numbers.{begins, number_at}
use Rattle.je_tokens.specs.Literals.{character_at, string_at}
use Rattle.je_tokens.specs.Marks.{mark_at}

-- the text begins with these characters
abbrev pub begins_with : List ℕ → List ℕ → Bool
begins_with mark text = starts_with nat_eq text mark

-- how many characters a piece has
abbrev pub size : Piece → ℕ
size (Gap n) = n
size (Lexeme n kind) = n

-- how many characters stand before the first `*/`
abbrev pub before_end : List ℕ → Option ℕ
before_end [] = None
before_end (c ∷ text) =
    if begins_with (codes "*/") (c ∷ text) then Some 0
    else option_map (λ n. n + 1) (before_end text)

abbrev pub comment_of : Option ℕ → Result Piece SyntaxKind
comment_of None = Err fault.Unclosed
comment_of (Some n) = Ok (Gap (n + 4))

-- a comment, of which the text is what stands behind its `/*`
unfoldable pub comment_at : List ℕ → Result Piece SyntaxKind
comment_at text = comment_of (before_end text)

-- what is no white space, comment or word
unfoldable pub other_at : Bool → List ℕ → Result Piece SyntaxKind
other_at negative [] = Ok (Gap 0)
other_at negative (c ∷ text) =
    if is_digit c then number_at negative (c ∷ text)
    else if c == quote then character_at text
    else if c == double_quote then string_at text
    else if c == dot && begins is_digit text then Err fault.FloatNumber
    else mark_at (c ∷ text)

-- The first piece of a text, each as long as it can be, or the fault that stands there. It matters
-- whether the token before is `-`.
unfoldable pub piece_at : Bool → List ℕ → Result Piece SyntaxKind
piece_at negative [] = Ok (Gap 0)
piece_at negative (c ∷ text) =
    if is_white c then Ok (Gap (prefix_len is_white (c ∷ text)))
    else if begins_with (codes "//") (c ∷ text) then Ok (Gap (prefix_len is_on_line (c ∷ text)))
    else if begins_with (codes "/*") (c ∷ text) then comment_at (drop 2 (c ∷ text))
    else if begins_name c then word_at (c ∷ text)
    else if c == dollar then dollar_at (c ∷ text)
    else other_at negative (c ∷ text)
