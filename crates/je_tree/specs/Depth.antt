-- How deep a fragment is: how many nodes stand one in the other. A block has depth 1 where it has
-- no parts, and each node one more than the deepest node that is directly a part of it. What an
-- operator or a suffix is applied to is a part of it, and so are the identifiers of its Name.
use Rattle.std.specs.Prelude.{ℕ, ◌+◌, ◌≤◌, min, max, List, [], ◌∷◌, length, Option, Some, None}
use Rattle.je_tree.specs.declared.names.Name.{Name}
use Rattle.je_tree.specs.declared.names.Base.{Base}
use Rattle.je_tree.specs.declared.names.Base.TheVariants as base
use Rattle.je_tree.specs.declared.names.TypeName.{TypeName}
use Rattle.je_tree.specs.declared.operators.CastTo.{CastTo}
use Rattle.je_tree.specs.declared.operators.CastTo.TheVariants as to
use Rattle.je_tree.specs.Tree.{Expr, literal, this, dollar, paren, proceed, call, name}
use Rattle.je_tree.specs.Tree.{class_field, class_call, name_call, super_call, new_object}
use Rattle.je_tree.specs.Tree.{new_array, new_items, field, method, index, step, unary, cast}
use Rattle.je_tree.specs.Tree.{binary, instance_of, choose, assign}
use Rattle.je_tree.specs.Tree.{Exprs, no_exprs, more_exprs, Args, no_args, more_args}
use Rattle.je_tree.specs.Tree.{all_parameters, Init, no_init, value, items}
use Rattle.je_tree.specs.Tree.{Variable, Local}
use Rattle.je_tree.specs.Tree.{ForInit, declares, starts, Stmt, block, empty, local, expr}
use Rattle.je_tree.specs.Tree.{if_only, if_else, while_loop, do_loop, for_loop, returns, throws}
use Rattle.je_tree.specs.Tree.{breaks, continues, tries, Block, braces, Stmts, no_stmts, more_stmts}
use Rattle.je_tree.specs.Tree.{Catches, no_catches, more_catches}

-- no node of a fragment is deeper
abbrev pub most_depth : ℕ
most_depth = 200

abbrev pub name_depth : Name → ℕ
name_depth n = min (length n.parts) 1

abbrev pub base_depth : Base → ℕ
base_depth (base.Prim p) = 0
base_depth (base.Class n) = name_depth n

abbrev pub type_depth : TypeName → ℕ
type_depth type_name = base_depth type_name.base

abbrev pub cast_depth : CastTo → ℕ
cast_depth (to.Type type_name) = type_depth type_name
cast_depth to.Result = 0
cast_depth to.Wrapper = 0

abbrev mutual
  pub expr_depth : Expr → ℕ
  expr_depth (literal pos v) = 1
  expr_depth (this pos) = 1
  expr_depth (dollar pos text) = 1
  expr_depth (paren pos more inner) = expr_depth inner
  expr_depth (proceed pos args) = args_depth args + 1
  expr_depth (call ident args) = args_depth args + 1
  expr_depth (name n) = name_depth n + 1
  expr_depth (class_field n ident) = name_depth n + 1
  expr_depth (class_call n ident args) = max (name_depth n) (args_depth args) + 1
  expr_depth (name_call n ident args) = max (name_depth n) (args_depth args) + 1
  expr_depth (super_call pos ident args) = args_depth args + 1
  expr_depth (new_object pos n args) = max (name_depth n) (args_depth args) + 1
  expr_depth (new_array pos b sizes more) = max (base_depth b) (exprs_depth sizes) + 1
  expr_depth (new_items pos b content) = max (base_depth b) (exprs_depth content) + 1
  expr_depth (field left ident) = expr_depth left + 1
  expr_depth (method left ident args) = max (expr_depth left) (args_depth args) + 1
  expr_depth (index left at) = max (expr_depth left) (expr_depth at) + 1
  expr_depth (step left op) = expr_depth left + 1
  expr_depth (unary pos op operand) = expr_depth operand + 1
  expr_depth (cast pos target operand) = max (cast_depth target) (expr_depth operand) + 1
  expr_depth (binary left op right) = max (expr_depth left) (expr_depth right) + 1
  expr_depth (instance_of left type_name) = max (expr_depth left) (type_depth type_name) + 1
  expr_depth (choose condition first second) =
      max (expr_depth condition) (max (expr_depth first) (expr_depth second)) + 1
  expr_depth (assign left op right) = max (expr_depth left) (expr_depth right) + 1

  -- the deepest of them
  pub exprs_depth : Exprs → ℕ
  exprs_depth no_exprs = 0
  exprs_depth (more_exprs e more) = max (expr_depth e) (exprs_depth more)

  pub args_depth : Args → ℕ
  args_depth no_args = 0
  args_depth (more_args e more) = max (expr_depth e) (args_depth more)
  args_depth (all_parameters pos more) = max 1 (args_depth more)

abbrev pub init_depth : Init → ℕ
init_depth no_init = 0
init_depth (value e) = expr_depth e
init_depth (items pos content) = exprs_depth content + 1

abbrev pub variables_depth : List Variable → ℕ
variables_depth [] = 0
variables_depth (v ∷ more) = max (init_depth v.init + 1) (variables_depth more)

-- a declaration is no node; its statement is, or the `for` that it stands in
abbrev pub local_depth : Local → ℕ
local_depth declared =
    max (type_depth declared.type_name) (variables_depth declared.variables)

abbrev pub for_init_depth : ForInit → ℕ
for_init_depth (declares declared) = local_depth declared
for_init_depth (starts exprs) = exprs_depth exprs

abbrev pub optional_depth : Option Expr → ℕ
optional_depth None = 0
optional_depth (Some e) = expr_depth e

abbrev mutual
  -- a block that is a statement is one node
  pub stmt_depth : Stmt → ℕ
  stmt_depth (block body) = block_depth body
  stmt_depth (empty pos) = 1
  stmt_depth (local declared) = local_depth declared + 1
  stmt_depth (expr e) = expr_depth e + 1
  stmt_depth (if_only pos condition then) = max (expr_depth condition) (stmt_depth then) + 1
  stmt_depth (if_else pos condition then other) =
      max (expr_depth condition) (max (stmt_depth then) (stmt_depth other)) + 1
  stmt_depth (while_loop pos condition body) = max (expr_depth condition) (stmt_depth body) + 1
  stmt_depth (do_loop pos body condition) = max (stmt_depth body) (expr_depth condition) + 1
  stmt_depth (for_loop pos init condition steps body) =
      max (max (for_init_depth init) (optional_depth condition))
      (max (exprs_depth steps) (stmt_depth body)) + 1
  stmt_depth (returns pos e) = optional_depth e + 1
  stmt_depth (throws pos e) = expr_depth e + 1
  stmt_depth (breaks pos) = 1
  stmt_depth (continues pos) = 1
  stmt_depth (tries pos body catches) = max (block_depth body) (catches_depth catches) + 1

  pub block_depth : Block → ℕ
  block_depth (braces pos stmts) = stmts_depth stmts + 1

  pub stmts_depth : Stmts → ℕ
  stmts_depth no_stmts = 0
  stmts_depth (more_stmts stmt more) = max (stmt_depth stmt) (stmts_depth more)

  pub catches_depth : Catches → ℕ
  catches_depth no_catches = 0
  catches_depth (more_catches pos class variable body more) =
      max (max (name_depth class) (block_depth body) + 1) (catches_depth more)

-- the limit on depth, which stands apart from the grammar
abbrev pub FitsDepth : Block → Type 0
FitsDepth body = block_depth body ≤ most_depth
