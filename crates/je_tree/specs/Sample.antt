-- A small fragment, `{ a - b - 1; }`, that laws read.
use Rattle.std.specs.Prelude.{ℕ, ◌+◌, List, [], ◌∷◌, codes, true, false}
use Rattle.je_base.specs.declared.pos.Pos.{Pos}
use Rattle.je_tokens.specs.declared.token.Token.{Token}
use Rattle.je_tokens.specs.declared.token.TokenKind.{TokenKind}
use Rattle.je_tokens.specs.declared.token.TokenKind.TheVariants as kind
use Rattle.je_tree.specs.declared.names.Literal.TheVariants as literal
use Rattle.je_tree.specs.declared.operators.BinaryOp.TheVariants as op
use Rattle.je_tree.specs.Tree.{Expr, Block}
use Rattle.je_tree.specs.Tree as tree

-- on the first line
abbrev pub column : ℕ → Pos
column n = record { line = 1; column = n }

abbrev pub token_at : ℕ → ℕ → TokenKind → Token
token_at start stop of = record {
  start = start;
  «end» = stop;
  pos = column (start + 1);
  kind = of;
}

abbrev pub tokens : List Token
tokens =
    token_at 0 1 (kind.Mark (codes "{")) ∷ token_at 2 3 (kind.Ident (codes "a"))
    ∷ token_at 4 5 (kind.Mark (codes "-")) ∷ token_at 6 7 (kind.Ident (codes "b"))
    ∷ token_at 8 9 (kind.Mark (codes "-")) ∷ token_at 10 11 (kind.Whole 1 false true)
    ∷ token_at 11 12 (kind.Mark (codes ";")) ∷ token_at 13 14 (kind.Mark (codes "}")) ∷ []

abbrev pub variable : ℕ → List ℕ → Expr
variable n text = tree.name (record { parts = record { text = text; pos = column n } ∷ [] })

abbrev pub one : Expr
one = tree.literal (column 11) (literal.Whole 1 false true)

-- the number next above the greatest of `int`
abbrev pub next_int : Pos → Expr
next_int pos = tree.literal pos (literal.Whole 2147483648 false true)

abbrev pub minus : Expr → Expr → Expr
minus left right = tree.binary left op.Subtract right

-- a block of one expression
abbrev pub block_of_one : Expr → Block
block_of_one e = tree.braces (column 1) (tree.more_stmts (tree.expr e) tree.no_stmts)

-- `(a - b) - 1`, and `a - (b - 1)`
abbrev pub from_the_left : Block
from_the_left = block_of_one (minus (minus (variable 3 (codes "a")) (variable 7 (codes "b"))) one)

abbrev pub from_the_right : Block
from_the_right = block_of_one (minus (variable 3 (codes "a")) (minus (variable 7 (codes "b")) one))

-- a block of one block
abbrev pub in_a_block : Block → Block
in_a_block b = tree.braces (column 1) (tree.more_stmts (tree.block b) tree.no_stmts)
