-- Identifiers, reserved words and dollar names (JLS SE 8 3.8, 3.9).
use Rattle.std.specs.Prelude.{ℕ, List, [], ◌∷◌, codes, Bool, nat_lt, if◌then◌else◌, length}
use Rattle.std.specs.Prelude.{Result, Ok, Err}
use Rattle.std.specs.List.{list_any, take_while}
use Rattle.je_base.specs.Text.{is_same_text}
use Rattle.je_tokens.specs.declared.pieces.Piece.{Piece}
use Rattle.je_tokens.specs.declared.pieces.Piece.TheVariants.{Lexeme}
use Rattle.je_tokens.specs.declared.syntax.SyntaxKind.{SyntaxKind}
use Rattle.je_tokens.specs.declared.syntax.SyntaxKind.TheVariants as fault
use Rattle.je_tokens.specs.declared.token.TokenKind.{TokenKind}
use Rattle.je_tokens.specs.declared.token.TokenKind.TheVariants as kind
use Rattle.je_tokens.specs.Characters.{is_word, text_of}

-- the reserved words of Java SE 8, with `true`, `false` and `null`
unfoldable pub reserved_words : List (List ℕ)
reserved_words =
    codes "abstract" ∷ codes "assert" ∷ codes "boolean" ∷ codes "break" ∷ codes "byte" ∷
    codes "case" ∷ codes "catch" ∷ codes "char" ∷ codes "class" ∷ codes "const" ∷
    codes "continue" ∷ codes "default" ∷ codes "do" ∷ codes "double" ∷ codes "else" ∷
    codes "enum" ∷ codes "extends" ∷ codes "final" ∷ codes "finally" ∷ codes "float" ∷
    codes "for" ∷ codes "goto" ∷ codes "if" ∷ codes "implements" ∷ codes "import" ∷
    codes "instanceof" ∷ codes "int" ∷ codes "interface" ∷ codes "long" ∷ codes "native" ∷
    codes "new" ∷ codes "package" ∷ codes "private" ∷ codes "protected" ∷ codes "public" ∷
    codes "return" ∷ codes "short" ∷ codes "static" ∷ codes "strictfp" ∷ codes "super" ∷
    codes "switch" ∷ codes "synchronized" ∷ codes "this" ∷ codes "throw" ∷ codes "throws" ∷
    codes "transient" ∷ codes "try" ∷ codes "void" ∷ codes "volatile" ∷ codes "while" ∷
    codes "true" ∷ codes "false" ∷ codes "null" ∷ []

-- no name has more characters
abbrev pub most_characters : ℕ
most_characters = 1000

unfoldable pub is_reserved : List ℕ → Bool
is_reserved word = list_any (λ reserved. is_same_text reserved word) reserved_words

-- what a word is that begins with a letter or `_`
unfoldable pub word_kind : List ℕ → TokenKind
word_kind word = if is_reserved word then kind.Reserved word else kind.Ident word

-- A word is as long as it can be.
unfoldable pub word_at : List ℕ → Result Piece SyntaxKind
word_at text =
    let word = take_while is_word text in
    if nat_lt most_characters (length word) then Err fault.NameTooLong
    else Ok (Lexeme (length word) (word_kind (text_of word)))

-- and so is a dollar name, which may be `$` alone
unfoldable pub dollar_at : List ℕ → Result Piece SyntaxKind
dollar_at text =
    let word = take_while is_word text in
    if nat_lt most_characters (length word) then Err fault.NameTooLong
    else Ok (Lexeme (length word) (kind.Dollar (text_of word)))
