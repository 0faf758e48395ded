use Rattle.std.proofs.Common.{◌≡◌, ℕ, [], ◌∷◌, refl, arith}
use Rattle.std.specs.Prelude.{codes}
use Rattle.je_tokens.specs.declared.token.TokenKind.TheVariants as kind
use Rattle.je_tree.specs.Tree.{braces}
use Rattle.je_tree.specs.FragmentGrammar.{IsFragment}
use Rattle.je_tree.specs.Faults.{Begins, EndsHere}
use Rattle.je_tree.specs.Sample.{tokens, from_the_left, token_at}
use Rattle.je_tree.proofs.laws.first_faults.Goals as goal

reads_sample : IsFragment tokens from_the_left
reads_sample = (
  _,
  _,
  (_, refl, refl, refl),
  (_, (_, (_, _, (_, _, (_, refl, refl, refl), omega arith, (_, refl, refl), (_, refl, refl, refl), omega arith), omega arith, (_, refl, refl), (_, refl, refl, refl), omega arith), (_, refl, refl)), refl),
  (_, refl, refl),
)

some_text : Begins []
some_text = (tokens, from_the_left, reads_sample)

no_empty : EndsHere [] []
no_empty (braces pos stmts) (m, k, (token, split, is, at), more, close) = cc

no_brace : EndsHere [] (token_at 0 1 (kind.Mark (codes "}")) ∷ tokens)
no_brace (more, braces pos stmts, (m, k, (token, split, is, at), inner, close)) =
    let e : ◌≡◌ {A = ℕ} 125 123 = cc in absurd (omega arith)

pub returns-clause-empty : goal.returns-clause-empty
returns-clause-empty c = record {
  front = [];
  rest = [];
  split = refl;
  place = refl;
  begins = some_text;
  ends = no_empty;
}

pub returns-clause-brace : goal.returns-clause-brace
returns-clause-brace c = record {
  front = [];
  rest = _;
  split = refl;
  place = refl;
  begins = some_text;
  ends = no_brace;
}
