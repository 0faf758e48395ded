-- The first fault of a list of tokens by the grammar, which is taken without its limits here.
use Rattle.std.specs.Prelude.{◌≡◌, List, [], ◌∷◌, ◌++◌}
use Rattle.je_base.specs.declared.pos.Pos.{Pos}
use Rattle.je_tokens.specs.declared.token.Token.{Token}
use Rattle.je_tree.specs.Tree.{Block}
use Rattle.je_tree.specs.FragmentGrammar.{IsFragment}

-- some text of the grammar begins with these tokens
abbrev pub Begins : List Token → Type 0
Begins front = (more : List Token) × (body : Block) × IsFragment (front ++ more) body

-- none begins with them and the next token; or, at the end of the text, they are none
abbrev pub EndsHere : List Token → List Token → Type 0
EndsHere front [] = (body : Block) → IsFragment front body → ⊥
EndsHere front (token ∷ rest) = Begins (front ++ token ∷ []) → ⊥

-- the position of the next token, or that of the end of the text
abbrev pub fault_pos : Pos → List Token → Pos
fault_pos last [] = last
fault_pos last (token ∷ rest) = token.pos

-- Up to this position no text of the grammar begins so, and up to the token before it one does.
pub record FirstUnexpected (tokens : List Token) (last pos : Pos) : Type 0 where
  pub front : List Token
  pub rest : List Token
  pub split : tokens ≡ front ++ rest
  pub place : pos ≡ fault_pos last rest
  pub begins : Begins front
  pub ends : EndsHere front rest
