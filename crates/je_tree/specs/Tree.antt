-- The trees of fragments: statements and expressions (JLS SE 8 14, 15), by the alternatives of the
-- grammar. Each node has the position of its first token, or begins with a part that has it.
use Rattle.std.specs.Prelude.{ℕ, List, [], ◌∷◌, Option}
use Rattle.je_base.specs.declared.pos.Pos.{Pos}
use Rattle.je_tree.specs.declared.names.Ident.{Ident}
use Rattle.je_tree.specs.declared.names.Name.{Name}
use Rattle.je_tree.specs.declared.names.Base.{Base}
use Rattle.je_tree.specs.declared.names.TypeName.{TypeName}
use Rattle.je_tree.specs.declared.names.Literal.{Literal}
use Rattle.je_tree.specs.declared.operators.UnaryOp.{UnaryOp}
use Rattle.je_tree.specs.declared.operators.StepOp.{StepOp}
use Rattle.je_tree.specs.declared.operators.BinaryOp.{BinaryOp}
use Rattle.je_tree.specs.declared.operators.AssignOp.{AssignOp}
use Rattle.je_tree.specs.declared.operators.CastTo.{CastTo}

mutual
  pub data Expr : Type 0 where
    literal : Pos → Literal → Expr
    this : Pos → Expr
    dollar : Pos → List ℕ → Expr
    -- parentheses and so many more in them, which are no nodes
    paren : Pos → ℕ → Expr → Expr
    -- `$proceed(..)`
    proceed : Pos → Args → Expr
    -- `m(..)`
    call : Ident → Args → Expr
    name : Name → Expr
    -- `C#f` and `C#m(..)`
    class_field : Name → Ident → Expr
    class_call : Name → Ident → Args → Expr
    -- `a.b.m(..)`
    name_call : Name → Ident → Args → Expr
    super_call : Pos → Ident → Args → Expr
    new_object : Pos → Name → Args → Expr
    -- with sizes in so many dimensions, and so many without
    new_array : Pos → Base → Exprs → ℕ → Expr
    -- `new T[] { .. }`
    new_items : Pos → Base → Exprs → Expr
    -- suffixes
    field : Expr → Ident → Expr
    method : Expr → Ident → Args → Expr
    index : Expr → Expr → Expr
    step : Expr → StepOp → Expr
    unary : Pos → UnaryOp → Expr → Expr
    cast : Pos → CastTo → Expr → Expr
    binary : Expr → BinaryOp → Expr → Expr
    instance_of : Expr → TypeName → Expr
    choose : Expr → Expr → Expr → Expr
    assign : Expr → AssignOp → Expr → Expr

  pub data Exprs : Type 0 where
    no_exprs : Exprs
    more_exprs : Expr → Exprs → Exprs

  -- arguments; `$$` stands for all parameters
  pub data Args : Type 0 where
    no_args : Args
    more_args : Expr → Args → Args
    all_parameters : Pos → Args → Args

-- what a declared variable begins with
pub data Init : Type 0 where
  no_init : Init
  value : Expr → Init
  items : Pos → Exprs → Init

-- a variable that is declared
pub record Variable : Type 0 where
  pub ident : Ident
  pub init : Init

pub record Local : Type 0 where
  pub type_name : TypeName
  pub variables : List Variable

-- the first part of the head of a `for`; it may be no expressions
pub data ForInit : Type 0 where
  declares : Local → ForInit
  starts : Exprs → ForInit

mutual
  pub data Stmt : Type 0 where
    block : Block → Stmt
    empty : Pos → Stmt
    local : Local → Stmt
    expr : Expr → Stmt
    if_only : Pos → Expr → Stmt → Stmt
    if_else : Pos → Expr → Stmt → Stmt → Stmt
    while_loop : Pos → Expr → Stmt → Stmt
    do_loop : Pos → Stmt → Expr → Stmt
    for_loop : Pos → ForInit → Option Expr → Exprs → Stmt → Stmt
    returns : Pos → Option Expr → Stmt
    throws : Pos → Expr → Stmt
    breaks : Pos → Stmt
    continues : Pos → Stmt
    tries : Pos → Block → Catches → Stmt

  pub data Block : Type 0 where
    braces : Pos → Stmts → Block

  pub data Stmts : Type 0 where
    no_stmts : Stmts
    more_stmts : Stmt → Stmts → Stmts

  pub data Catches : Type 0 where
    no_catches : Catches
    -- the class, the variable and the block
    more_catches : Pos → Name → Ident → Block → Catches → Catches

-- ---- lists of parts

-- an argument
pub data Arg : Type 0 where
  argument : Expr → Arg
  parameters : Pos → Arg

abbrev pub args_of : List Arg → Args
args_of [] = no_args
args_of (argument e ∷ more) = more_args e (args_of more)
args_of (parameters pos ∷ more) = all_parameters pos (args_of more)

abbrev pub exprs_of : List Expr → Exprs
exprs_of [] = no_exprs
exprs_of (e ∷ more) = more_exprs e (exprs_of more)

abbrev pub stmts_of : List Stmt → Stmts
stmts_of [] = no_stmts
stmts_of (stmt ∷ more) = more_stmts stmt (stmts_of more)

-- a catch clause
pub record Catch : Type 0 where
  pub pos : Pos
  pub class_name : Name
  pub variable : Ident
  pub body : Block

abbrev pub catches_of : List Catch → Catches
catches_of [] = no_catches
catches_of (c ∷ more) = more_catches c.pos c.class_name c.variable c.body (catches_of more)
