-- Operators and other marks (JLS SE 8 3.11, 3.12), those that fragments and scripts have.
use Rattle.std.specs.Prelude.{ℕ, List, [], ◌∷◌, codes, length, nat_eq}
use Rattle.std.specs.Prelude.{Option, Some, None, Result, Ok, Err}
use Rattle.std.specs.List.{find, starts_with}
use Rattle.je_tokens.specs.declared.pieces.Piece.{Piece}
use Rattle.je_tokens.specs.declared.pieces.Piece.TheVariants.{Lexeme}
use Rattle.je_tokens.specs.declared.syntax.SyntaxKind.{SyntaxKind}
use Rattle.je_tokens.specs.declared.syntax.SyntaxKind.TheVariants as fault
use Rattle.je_tokens.specs.declared.token.TokenKind.TheVariants as kind
use Rattle.je_tokens.specs.Characters.{text_of}

-- the marks, longer ones first
unfoldable pub marks : List (List ℕ)
marks =
    codes ">>>=" ∷ codes ">>>" ∷ codes "<<=" ∷ codes ">>=" ∷ codes "++" ∷ codes "--" ∷ codes "&&"
    ∷ codes "||" ∷ codes "==" ∷ codes "!=" ∷ codes "<=" ∷ codes ">=" ∷ codes "<<" ∷ codes ">>"
    ∷ codes "+=" ∷ codes "-=" ∷ codes "*=" ∷ codes "/=" ∷ codes "%=" ∷ codes "&=" ∷ codes "|="
    ∷ codes "^=" ∷ codes "{" ∷ codes "}" ∷ codes "(" ∷ codes ")" ∷ codes "[" ∷ codes "]" ∷ codes ";"
    ∷ codes "," ∷ codes "." ∷ codes "=" ∷ codes "?" ∷ codes ":" ∷ codes "#" ∷ codes "+" ∷ codes "-"
    ∷ codes "!" ∷ codes "~" ∷ codes "*" ∷ codes "/" ∷ codes "%" ∷ codes "&" ∷ codes "|" ∷ codes "^"
    ∷ codes "<" ∷ codes ">" ∷ []

abbrev pub mark_of : Option (List ℕ) → Result Piece SyntaxKind
mark_of None = Err fault.BadChar
mark_of (Some mark) = Ok (Lexeme (length mark) (kind.Mark (text_of mark)))

-- the longest mark with which the text begins
unfoldable pub mark_at : List ℕ → Result Piece SyntaxKind
mark_at text = mark_of (find (λ mark. starts_with nat_eq text mark) marks)
