-- Serves private functions: the tokens of a text, a piece after the other.
use Rattle.std.specs.Prelude.{◌≡◌, ◌⊎◌, List, ◌++◌, Option, Result, Ok, Err}
use Rattle.std.specs.Option.{option_to_list}
use Rattle.je_tokens.specs.declared.cut.Rest.{Rest}
use Rattle.je_tokens.specs.declared.syntax.Syntax.{Syntax}
use Rattle.je_tokens.specs.declared.syntax.SyntaxKind.TheVariants as fault
use Rattle.je_tokens.specs.declared.token.Token.{Token}
use Rattle.je_tokens.specs.Tokens.{in_ok, tokens_from}

-- the tokens of what is left
abbrev pub tokens_left : Rest → Result (List Token) Syntax
tokens_left rest = tokens_from rest.text.now 0 rest.place rest.negative

-- the tokens are this one, where there is one, and those of what follows
abbrev pub Steps : Rest → Result (Rest × Option Token) Syntax → Type 0
Steps rest (Ok next) =
    tokens_left rest
    ≡ in_ok (λ tokens. option_to_list next.1 ++ tokens) (tokens_left next.0)
Steps rest (Err syntax) = (syntax.kind ≡ fault.Memory) ⊎ (tokens_left rest ≡ Err syntax)
