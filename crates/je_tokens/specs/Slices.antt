-- Tokens as slices of their text.
use Rattle.std.specs.Prelude.{◌≡◌, ℕ, List, ◌++◌}
use Rattle.std.specs.List.{AllByRecursion}
use Rattle.je_tokens.specs.declared.token.Token.{Token}
use Rattle.je_tokens.specs.Places.{byte_count, pos_after}

-- The token is the characters from one place of the text to another: its offsets count the bytes
-- in front of these, and its position is that of the first.
pub record IsSlice (text : List ℕ) (token : Token) : Type 0 where
  pub front : List ℕ
  pub lexeme : List ℕ
  pub rest : List ℕ
  pub whole : text ≡ front ++ (lexeme ++ rest)
  pub begins : token.start ≡ byte_count front
  pub ends : token.«end» ≡ byte_count (front ++ lexeme)
  pub there : token.pos ≡ pos_after front

-- each of the tokens is one
abbrev pub AreSlices : List ℕ → List Token → Type 0
AreSlices text tokens = AllByRecursion (IsSlice text) tokens
