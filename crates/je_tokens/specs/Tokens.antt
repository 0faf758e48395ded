-- The tokens of a text, or its first fault.
use Rattle.std.specs.Prelude.{ℕ, zero, suc, ◌-◌, List, [], ◌∷◌, take, Bool, false}
use Rattle.std.specs.Prelude.{Result, Ok, Err, codes}
use Rattle.je_base.specs.Text.{is_same_text}
use Rattle.je_tokens.specs.declared.pieces.Piece.{Piece}
use Rattle.je_tokens.specs.declared.pieces.Piece.TheVariants.{Gap, Lexeme}
use Rattle.je_tokens.specs.declared.places.Place.{Place}
use Rattle.je_tokens.specs.declared.syntax.Syntax.{Syntax}
use Rattle.je_tokens.specs.declared.syntax.SyntaxKind.{SyntaxKind}
use Rattle.je_tokens.specs.declared.token.Token.{Token}
use Rattle.je_tokens.specs.declared.token.TokenKind.{TokenKind}
use Rattle.je_tokens.specs.declared.token.TokenKind.TheVariants as kind
use Rattle.je_tokens.specs.Pieces.{piece_at}
use Rattle.je_tokens.specs.Places.{first_place, place_behind, place_after}

-- what a function makes of an answer that is Ok
abbrev pub in_ok : {A B E : Type 0} → (A → B) → Result A E → Result B E
in_ok f (Ok x) = Ok (f x)
in_ok f (Err fault) = Err fault

-- whether a token is the mark `-`
abbrev pub is_minus : TokenKind → Bool
is_minus (kind.Mark mark) = is_same_text mark (codes "-")
is_minus _ = false

-- the token of so many characters at the front of a text that stands at a place
abbrev pub token_at : List ℕ → Place → ℕ → TokenKind → Token
token_at text place n kind = record {
  start = place.offset;
  «end» = (place_after place (take n text)).offset;
  pos = place.pos;
  kind = kind;
}

-- What the tokens are where a text begins with a piece, by what those of the rest are. The rest
-- skips all characters of the piece but the first, which are so many.
abbrev pub with_piece : List ℕ → Place → Bool → Result Piece SyntaxKind
    → (ℕ → Bool → Result (List Token) Syntax) → Result (List Token) Syntax
with_piece text place negative (Err kind) rest = Err (record { pos = place.pos; kind = kind })
with_piece text place negative (Ok (Gap n)) rest = rest (n - 1) negative
with_piece text place negative (Ok (Lexeme n kind)) rest =
    in_ok (λ tokens. token_at text place n kind ∷ tokens) (rest (n - 1) (is_minus kind))

-- The tokens of a text that stands at a place, behind `-` or not, without so many characters.
abbrev pub tokens_from : List ℕ → ℕ → Place → Bool → Result (List Token) Syntax
tokens_from [] skipped place negative = Ok []
tokens_from (c ∷ text) (suc skipped) place negative =
    tokens_from text skipped (place_behind place c) negative
tokens_from (c ∷ text) zero place negative =
    with_piece (c ∷ text) place negative (piece_at negative (c ∷ text))
    (λ skipped behind_minus. tokens_from text skipped (place_behind place c) behind_minus)

-- A text is pieces, one after the other: white space, comments, and tokens, which are the answer.
-- Where none of them stands, that is the first fault.
unfoldable pub tokens_of : List ℕ → Result (List Token) Syntax
tokens_of text = tokens_from text 0 first_place false
