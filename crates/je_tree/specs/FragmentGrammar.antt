-- The grammar of fragments: which tokens a tree has (JLS SE 8 14, 15). Each relation is of a tree,
-- the tokens that begin with it, and those that are left behind it.
use Rattle.std.specs.Prelude.{◌≡◌, ◌≢◌, ℕ, zero, suc, ◌+◌, ◌<◌, ◌≤◌, List, [], ◌∷◌, codes}
use Rattle.std.specs.Prelude.{Bool, true, false, Option, Some, None, Contains}
use Rattle.je_tokens.specs.declared.token.Token.{Token}
use Rattle.je_tokens.specs.declared.token.TokenKind.{TokenKind}
use Rattle.je_tokens.specs.declared.token.TokenKind.TheVariants as kind
use Rattle.je_tree.specs.declared.names.Base.{Base}
use Rattle.je_tree.specs.declared.names.Base.TheVariants as base
use Rattle.je_tree.specs.declared.names.TypeName.{TypeName}
use Rattle.je_tree.specs.declared.operators.CastTo.{CastTo}
use Rattle.je_tree.specs.declared.operators.CastTo.TheVariants as to
use Rattle.je_tree.specs.Tree.{Expr, literal, this, dollar, paren, proceed, call, name}
use Rattle.je_tree.specs.Tree.{class_field, class_call, name_call, super_call, new_object}
use Rattle.je_tree.specs.Tree.{new_array, new_items, field, method, index, step, unary, cast}
use Rattle.je_tree.specs.Tree.{binary, instance_of, choose, assign}
use Rattle.je_tree.specs.Tree.{Exprs, no_exprs, more_exprs, Args, no_args, more_args}
use Rattle.je_tree.specs.Tree.{all_parameters, Init, no_init, value, items, Variable, Local}
use Rattle.je_tree.specs.Tree.{ForInit, declares, starts, Stmt, block, empty, local, expr}
use Rattle.je_tree.specs.Tree.{if_only, if_else, while_loop, do_loop, for_loop, returns, throws}
use Rattle.je_tree.specs.Tree.{breaks, continues, tries, Block, braces, Stmts, no_stmts, more_stmts}
use Rattle.je_tree.specs.Tree.{Catches, no_catches, more_catches}
use Rattle.je_tree.specs.Terminals.{Sees, SeesAt, Repeats, Identifier, reads_name, reads_base}
use Rattle.je_tree.specs.Terminals.{reads_dimensions, reads_type, literal_kind}
use Rattle.je_tree.specs.Levels.{level, op_level, conditional, disjunction, relational, prefixed}
use Rattle.je_tree.specs.Levels.{suffixed, unary_mark, step_mark, binary_mark, assign_mark}

-- ---- tokens by name

abbrev pub open_parenthesis : TokenKind
open_parenthesis = kind.Mark (codes "(")

abbrev pub close_parenthesis : TokenKind
close_parenthesis = kind.Mark (codes ")")

abbrev pub open_bracket : TokenKind
open_bracket = kind.Mark (codes "[")

abbrev pub close_bracket : TokenKind
close_bracket = kind.Mark (codes "]")

abbrev pub open_brace : TokenKind
open_brace = kind.Mark (codes "{")

abbrev pub close_brace : TokenKind
close_brace = kind.Mark (codes "}")

abbrev pub comma : TokenKind
comma = kind.Mark (codes ",")

abbrev pub semicolon : TokenKind
semicolon = kind.Mark (codes ";")

abbrev pub dot : TokenKind
dot = kind.Mark (codes ".")

-- ---- rules that stand under the productions

-- `$$`, `$proceed`, `$r` and `$w` stand only where a production writes them
abbrev pub is_special : List ℕ → Type 0
is_special text =
    Contains (codes "$$" ∷ codes "$proceed" ∷ codes "$r" ∷ codes "$w" ∷ []) text

-- A Name is as long as it can be, so that no member is taken of one.
abbrev pub is_name : Expr → Bool
is_name (name n) = true
is_name _ = false

-- All parentheses in a row are counted by one tree.
abbrev pub is_paren : Expr → Bool
is_paren (paren pos more inner) = true
is_paren _ = false

-- A `[` directly behind a dimension of `new` is of the `new`.
abbrev pub takes_index : Expr → Bool
takes_index (new_array pos b sizes (suc more)) = true
takes_index (new_array pos b sizes zero) = false
takes_index _ = true

-- what a literal, an identifier, a dollar name, `this`, `super`, `new`, `(`, `!` or `~` is
abbrev pub BeginsOperand : TokenKind → Type 0
BeginsOperand (kind.Ident text) = Unit {0}
BeginsOperand (kind.Dollar text) = Unit {0}
BeginsOperand (kind.Whole number long decimal) = Unit {0}
BeginsOperand (kind.Character code) = Unit {0}
BeginsOperand (kind.Literal text) = Unit {0}
BeginsOperand (kind.Reserved text) =
    Contains (codes "this" ∷ codes "super" ∷ codes "new" ∷ codes "true" ∷ codes "false"
    ∷ codes "null" ∷ []) text
BeginsOperand (kind.Mark text) = Contains (codes "(" ∷ codes "!" ∷ codes "~" ∷ []) text

-- `( Name )` is a cast where such a token follows; other types always are casts
abbrev pub CastsBase : Base → ℕ → TokenKind → Type 0
CastsBase (base.Prim p) dimensions next = Unit {0}
CastsBase (base.Class n) zero next = BeginsOperand next
CastsBase (base.Class n) (suc more) next = Unit {0}

abbrev pub Casts : TypeName → List Token → Type 0
Casts type_name [] = ⊥
Casts type_name (token ∷ tokens) = CastsBase type_name.base type_name.dimensions token.kind

-- an `else` behind the statement would belong to an `if` in it
abbrev pub is_open : Stmt → Bool
is_open (if_only pos condition then) = true
is_open (if_else pos condition then other) = is_open other
is_open (while_loop pos condition body) = is_open body
is_open (for_loop pos init condition steps body) = is_open body
is_open _ = false

-- it may stand directly in a block alone
abbrev pub is_local : Stmt → Bool
is_local (local declared) = true
is_local _ = false

abbrev pub count_of : Exprs → ℕ
count_of no_exprs = 0
count_of (more_exprs e more) = count_of more + 1

abbrev pub HasCatch : Catches → Type 0
HasCatch no_catches = ⊥
HasCatch (more_catches pos class variable body more) = Unit {0}

-- ---- expressions

abbrev pub reads_to : CastTo → List Token → List Token → Type 0
reads_to (to.Type type_name) tokens rest = reads_type type_name tokens rest
reads_to to.Result tokens rest = Sees (kind.Dollar (codes "$r")) tokens rest
reads_to to.Wrapper tokens rest = Sees (kind.Dollar (codes "$w")) tokens rest

abbrev pub CastsTo : CastTo → List Token → Type 0
CastsTo (to.Type type_name) tokens = Casts type_name tokens
CastsTo to.Result tokens = Unit {0}
CastsTo to.Wrapper tokens = Unit {0}

abbrev mutual
  pub reads : Expr → List Token → List Token → Type 0
  -- Prim1
  reads (literal pos number) tokens rest = SeesAt (literal_kind number) pos tokens rest
  reads (this pos) tokens rest = SeesAt (kind.Reserved (codes "this")) pos tokens rest
  reads (dollar pos text) tokens rest =
      SeesAt (kind.Dollar text) pos tokens rest × (is_special text → ⊥)
  reads (paren pos more inner) tokens rest =
      (m k l n : List Token) × SeesAt open_parenthesis pos tokens m
      × Repeats open_parenthesis more m k × reads inner k l × (is_paren inner ≡ false)
      × Repeats close_parenthesis more l n × Sees close_parenthesis n rest
  reads (proceed pos args) tokens rest =
      (m : List Token) × SeesAt (kind.Dollar (codes "$proceed")) pos tokens m
      × reads_args args m rest
  reads (call ident args) tokens rest =
      (m : List Token) × Identifier ident tokens m × reads_args args m rest
  reads (name n) tokens rest = reads_name n tokens rest
  reads (class_field n ident) tokens rest =
      (m k : List Token) × reads_name n tokens m × Sees (kind.Mark (codes "#")) m k
      × Identifier ident k rest
  reads (class_call n ident args) tokens rest =
      (m k l : List Token) × reads_name n tokens m × Sees (kind.Mark (codes "#")) m k
      × Identifier ident k l × reads_args args l rest
  reads (name_call n ident args) tokens rest =
      (m k l : List Token) × reads_name n tokens m × Sees dot m k × Identifier ident k l
      × reads_args args l rest
  reads (super_call pos ident args) tokens rest =
      (m k l : List Token) × SeesAt (kind.Reserved (codes "super")) pos tokens m × Sees dot m k
      × Identifier ident k l × reads_args args l rest
  reads (new_object pos n args) tokens rest =
      (m k : List Token) × SeesAt (kind.Reserved (codes "new")) pos tokens m × reads_name n m k
      × reads_args args k rest
  reads (new_array pos b sizes more) tokens rest =
      (m k l : List Token) × SeesAt (kind.Reserved (codes "new")) pos tokens m × reads_base b m k
      × (sizes ≢ no_exprs) × reads_sizes sizes k l × reads_dimensions more l rest
      × (count_of sizes + more ≤ 255)
  reads (new_items pos b content) tokens rest =
      (m k l n o : List Token) × SeesAt (kind.Reserved (codes "new")) pos tokens m
      × reads_base b m k × reads_dimensions 1 k l × Sees open_brace l n
      × reads_exprs content n o × Sees close_brace o rest
  -- Post
  reads (field left ident) tokens rest =
      (m k : List Token) × reads left tokens m × (suffixed ≤ level left) × (is_name left ≡ false)
      × Sees dot m k × Identifier ident k rest
  reads (method left ident args) tokens rest =
      (m k l : List Token) × reads left tokens m × (suffixed ≤ level left)
      × (is_name left ≡ false) × Sees dot m k × Identifier ident k l × reads_args args l rest
  reads (index left at) tokens rest =
      (m k l : List Token) × reads left tokens m × (suffixed ≤ level left)
      × (takes_index left ≡ true) × Sees open_bracket m k × reads at k l × Sees close_bracket l rest
  reads (step left op) tokens rest =
      (m : List Token) × reads left tokens m × (suffixed ≤ level left)
      × Sees (kind.Mark (step_mark op)) m rest
  -- Unary, Cast
  reads (unary pos op operand) tokens rest =
      (m : List Token) × SeesAt (kind.Mark (unary_mark op)) pos tokens m × reads operand m rest
      × (prefixed ≤ level operand)
  reads (cast pos target operand) tokens rest =
      (m k l : List Token) × SeesAt open_parenthesis pos tokens m × reads_to target m k
      × Sees close_parenthesis k l × CastsTo target l × reads operand l rest
      × (prefixed ≤ level operand)
  -- the levels from `*` to `||`, from left to right
  reads (binary left op right) tokens rest =
      (m k : List Token) × reads left tokens m × (op_level op ≤ level left)
      × Sees (kind.Mark (binary_mark op)) m k × reads right k rest
      × (op_level op < level right)
  reads (instance_of left type_name) tokens rest =
      (m k : List Token) × reads left tokens m × (relational ≤ level left)
      × Sees (kind.Reserved (codes "instanceof")) m k × reads_type type_name k rest
  -- Cond = Or [ "?" Expr ":" Cond ]
  reads (choose condition first second) tokens rest =
      (m k l n : List Token) × reads condition tokens m × (disjunction ≤ level condition)
      × Sees (kind.Mark (codes "?")) m k × reads first k l × Sees (kind.Mark (codes ":")) l n
      × reads second n rest × (conditional ≤ level second)
  -- Expr = Cond [ AssignOp Expr ]
  reads (assign left op right) tokens rest =
      (m k : List Token) × reads left tokens m × (conditional ≤ level left)
      × Sees (kind.Mark (assign_mark op)) m k × reads right k rest

  -- [ Exprs ], where Exprs = Expr { "," Expr }
  pub reads_exprs : Exprs → List Token → List Token → Type 0
  reads_exprs no_exprs tokens rest = tokens ≡ rest
  reads_exprs (more_exprs e more) tokens rest =
      (m : List Token) × reads e tokens m × reads_more_exprs more m rest

  -- { "," Expr }
  pub reads_more_exprs : Exprs → List Token → List Token → Type 0
  reads_more_exprs no_exprs tokens rest = tokens ≡ rest
  reads_more_exprs (more_exprs e more) tokens rest =
      (m k : List Token) × Sees comma tokens m × reads e m k × reads_more_exprs more k rest

  -- { "[" Expr "]" }
  pub reads_sizes : Exprs → List Token → List Token → Type 0
  reads_sizes no_exprs tokens rest = tokens ≡ rest
  reads_sizes (more_exprs e more) tokens rest =
      (m k l : List Token) × Sees open_bracket tokens m × reads e m k × Sees close_bracket k l
      × reads_sizes more l rest

  -- Args = "(" [ Arg { "," Arg } ] ")", where Arg = Expr | "$$"
  pub reads_args : Args → List Token → List Token → Type 0
  reads_args no_args tokens rest =
      (m : List Token) × Sees open_parenthesis tokens m × Sees close_parenthesis m rest
  reads_args (more_args e more) tokens rest =
      (m k : List Token) × Sees open_parenthesis tokens m × reads e m k
      × reads_more_args more k rest
  reads_args (all_parameters pos more) tokens rest =
      (m k : List Token) × Sees open_parenthesis tokens m
      × SeesAt (kind.Dollar (codes "$$")) pos m k × reads_more_args more k rest

  -- { "," Arg } ")"
  pub reads_more_args : Args → List Token → List Token → Type 0
  reads_more_args no_args tokens rest = Sees close_parenthesis tokens rest
  reads_more_args (more_args e more) tokens rest =
      (m k : List Token) × Sees comma tokens m × reads e m k × reads_more_args more k rest
  reads_more_args (all_parameters pos more) tokens rest =
      (m k : List Token) × Sees comma tokens m × SeesAt (kind.Dollar (codes "$$")) pos m k
      × reads_more_args more k rest

-- ---- declarations

-- [ "=" Init ], where Init = Expr | "{" [ Exprs ] "}". Braces want an array of one dimension.
abbrev pub reads_init : ℕ → Init → List Token → List Token → Type 0
reads_init dimensions no_init tokens rest = tokens ≡ rest
reads_init dimensions (value e) tokens rest =
    (m : List Token) × Sees (kind.Mark (codes "=")) tokens m × reads e m rest
reads_init dimensions (items pos content) tokens rest =
    (m k l : List Token) × Sees (kind.Mark (codes "=")) tokens m × SeesAt open_brace pos m k
    × reads_exprs content k l × Sees close_brace l rest × (dimensions ≡ 1)

-- Ident [ "=" Init ]
abbrev pub reads_variable : ℕ → Variable → List Token → List Token → Type 0
reads_variable dimensions variable tokens rest =
    (m : List Token) × Identifier variable.ident tokens m
    × reads_init dimensions variable.init m rest

-- Ident [ "=" Init ] { "," Ident [ "=" Init ] }
abbrev pub reads_variables : ℕ → List Variable → List Token → List Token → Type 0
reads_variables dimensions [] tokens rest = ⊥
reads_variables dimensions (v ∷ []) tokens rest = reads_variable dimensions v tokens rest
reads_variables dimensions (v ∷ next ∷ more) tokens rest =
    (m k : List Token) × reads_variable dimensions v tokens m × Sees comma m k
    × reads_variables dimensions (next ∷ more) k rest

-- Local = Type Ident [ "=" Init ] { "," Ident [ "=" Init ] }
abbrev pub reads_local : Local → List Token → List Token → Type 0
reads_local declared tokens rest =
    (m : List Token) × reads_type declared.type_name tokens m
    × reads_variables declared.type_name.dimensions declared.variables m rest

-- ---- statements

-- [ Local | Exprs ]
abbrev pub reads_for_init : ForInit → List Token → List Token → Type 0
reads_for_init (declares declared) tokens rest = reads_local declared tokens rest
reads_for_init (starts exprs) tokens rest = reads_exprs exprs tokens rest

-- [ Expr ]
abbrev pub reads_optional : Option Expr → List Token → List Token → Type 0
reads_optional None tokens rest = tokens ≡ rest
reads_optional (Some e) tokens rest = reads e tokens rest

-- "(" Expr ")"
abbrev pub reads_condition : Expr → List Token → List Token → Type 0
reads_condition e tokens rest =
    (m k : List Token) × Sees open_parenthesis tokens m × reads e m k
    × Sees close_parenthesis k rest

abbrev mutual
  pub reads_stmt : Stmt → List Token → List Token → Type 0
  reads_stmt (block body) tokens rest = reads_block body tokens rest
  reads_stmt (empty pos) tokens rest = SeesAt semicolon pos tokens rest
  reads_stmt (local declared) tokens rest =
      (m : List Token) × reads_local declared tokens m × Sees semicolon m rest
  reads_stmt (expr e) tokens rest = (m : List Token) × reads e tokens m × Sees semicolon m rest
  reads_stmt (if_only pos condition then) tokens rest =
      (m k : List Token) × SeesAt (kind.Reserved (codes "if")) pos tokens m
      × reads_condition condition m k × reads_stmt then k rest × (is_local then ≡ false)
  reads_stmt (if_else pos condition then other) tokens rest =
      (m k l n : List Token) × SeesAt (kind.Reserved (codes "if")) pos tokens m
      × reads_condition condition m k × reads_stmt then k l × (is_local then ≡ false)
      × (is_open then ≡ false) × Sees (kind.Reserved (codes "else")) l n
      × reads_stmt other n rest × (is_local other ≡ false)
  reads_stmt (while_loop pos condition body) tokens rest =
      (m k : List Token) × SeesAt (kind.Reserved (codes "while")) pos tokens m
      × reads_condition condition m k × reads_stmt body k rest × (is_local body ≡ false)
  reads_stmt (do_loop pos body condition) tokens rest =
      (m k l n : List Token) × SeesAt (kind.Reserved (codes "do")) pos tokens m
      × reads_stmt body m k × (is_local body ≡ false) × Sees (kind.Reserved (codes "while")) k l
      × reads_condition condition l n × Sees semicolon n rest
  reads_stmt (for_loop pos init condition steps body) tokens rest =
      (m k l n o p q r : List Token) × SeesAt (kind.Reserved (codes "for")) pos tokens m
      × Sees open_parenthesis m k × reads_for_init init k l × Sees semicolon l n
      × reads_optional condition n o × Sees semicolon o p × reads_exprs steps p q
      × Sees close_parenthesis q r × reads_stmt body r rest × (is_local body ≡ false)
  reads_stmt (returns pos result_of) tokens rest =
      (m k : List Token) × SeesAt (kind.Reserved (codes "return")) pos tokens m
      × reads_optional result_of m k × Sees semicolon k rest
  reads_stmt (throws pos e) tokens rest =
      (m k : List Token) × SeesAt (kind.Reserved (codes "throw")) pos tokens m × reads e m k
      × Sees semicolon k rest
  reads_stmt (breaks pos) tokens rest =
      (m : List Token) × SeesAt (kind.Reserved (codes "break")) pos tokens m
      × Sees semicolon m rest
  reads_stmt (continues pos) tokens rest =
      (m : List Token) × SeesAt (kind.Reserved (codes "continue")) pos tokens m
      × Sees semicolon m rest
  reads_stmt (tries pos body catches) tokens rest =
      (m k : List Token) × SeesAt (kind.Reserved (codes "try")) pos tokens m
      × reads_block body m k × HasCatch catches × reads_catches catches k rest

  -- Block = "{" { Stmt } "}"
  pub reads_block : Block → List Token → List Token → Type 0
  reads_block (braces pos stmts) tokens rest =
      (m k : List Token) × SeesAt open_brace pos tokens m × reads_stmts stmts m k
      × Sees close_brace k rest

  pub reads_stmts : Stmts → List Token → List Token → Type 0
  reads_stmts no_stmts tokens rest = tokens ≡ rest
  reads_stmts (more_stmts stmt more) tokens rest =
      (m : List Token) × reads_stmt stmt tokens m × reads_stmts more m rest

  -- { Catch }, where Catch = "catch" "(" Name Ident ")" Block
  pub reads_catches : Catches → List Token → List Token → Type 0
  reads_catches no_catches tokens rest = tokens ≡ rest
  reads_catches (more_catches pos class variable body more) tokens rest =
      (m k l n o p : List Token) × SeesAt (kind.Reserved (codes "catch")) pos tokens m
      × Sees open_parenthesis m k × reads_name class k l × Identifier variable l n
      × Sees close_parenthesis n o × reads_block body o p × reads_catches more p rest

-- The tokens are those of a block and nothing more. The limits on depth and names stand apart.
abbrev pub IsFragment : List Token → Block → Type 0
IsFragment tokens body = reads_block body tokens []
