-- The nodes of a fragment, and how deep they stand. A node is each statement, each block that is
-- none, each catch, declared variable, initialiser in braces, `$$` and expression, and each
-- identifier of a Name, also of one in a type. Parentheses and types are no nodes.
use Rattle.std.specs.Prelude.{ℕ, ◌+◌, ◌-◌, ◌^◌, min, List, [], ◌∷◌, length}
use Rattle.std.specs.Prelude.{Option, Some, None}
use Rattle.je_tree.specs.declared.names.Name.{Name}
use Rattle.je_tree.specs.declared.names.Base.{Base}
use Rattle.je_tree.specs.declared.names.Base.TheVariants as base
use Rattle.je_tree.specs.declared.names.TypeName.{TypeName}
use Rattle.je_tree.specs.declared.operators.CastTo.{CastTo}
use Rattle.je_tree.specs.declared.operators.CastTo.TheVariants as to
use Rattle.je_tree.specs.Tree.{Expr, literal, this, dollar, paren, proceed, call, name}
use Rattle.je_tree.specs.Tree.{class_field, class_call, name_call, super_call, new_object}
use Rattle.je_tree.specs.Tree.{new_array, new_items, field, method, index, step, unary, cast}
use Rattle.je_tree.specs.Tree.{binary, instance_of, choose, assign}
use Rattle.je_tree.specs.Tree.{Exprs, no_exprs, more_exprs, Args, no_args, more_args}
use Rattle.je_tree.specs.Tree.{all_parameters, Init, no_init, value, items}
use Rattle.je_tree.specs.Tree.{Variable, Local}
use Rattle.je_tree.specs.Tree.{ForInit, declares, starts, Stmt, block, empty, local, expr}
use Rattle.je_tree.specs.Tree.{if_only, if_else, while_loop, do_loop, for_loop, returns, throws}
use Rattle.je_tree.specs.Tree.{breaks, continues, tries, Block, braces, Stmts, no_stmts, more_stmts}
use Rattle.je_tree.specs.Tree.{Catches, no_catches, more_catches}

-- a number in 32 bits, of which the greatest stands for all above it
abbrev pub counted : ℕ → ℕ
counted n = min n (2 ^ 32 - 1)

-- how many identifiers
abbrev pub name_nodes : Name → ℕ
name_nodes n = length n.parts

abbrev pub base_nodes : Base → ℕ
base_nodes (base.Prim p) = 0
base_nodes (base.Class n) = name_nodes n

abbrev pub type_nodes : TypeName → ℕ
type_nodes type_name = base_nodes type_name.base

abbrev pub cast_nodes : CastTo → ℕ
cast_nodes (to.Type type_name) = type_nodes type_name
cast_nodes to.Result = 0
cast_nodes to.Wrapper = 0

abbrev mutual
  pub expr_nodes : Expr → ℕ
  expr_nodes (literal pos v) = 1
  expr_nodes (this pos) = 1
  expr_nodes (dollar pos text) = 1
  expr_nodes (paren pos more inner) = expr_nodes inner
  expr_nodes (proceed pos args) = args_nodes args + 1
  expr_nodes (call ident args) = args_nodes args + 1
  expr_nodes (name n) = name_nodes n + 1
  expr_nodes (class_field n ident) = name_nodes n + 1
  expr_nodes (class_call n ident args) = name_nodes n + args_nodes args + 1
  expr_nodes (name_call n ident args) = name_nodes n + args_nodes args + 1
  expr_nodes (super_call pos ident args) = args_nodes args + 1
  expr_nodes (new_object pos n args) = name_nodes n + args_nodes args + 1
  expr_nodes (new_array pos b sizes more) = base_nodes b + exprs_nodes sizes + 1
  expr_nodes (new_items pos b content) = base_nodes b + exprs_nodes content + 1
  expr_nodes (field left ident) = expr_nodes left + 1
  expr_nodes (method left ident args) = expr_nodes left + args_nodes args + 1
  expr_nodes (index left at) = expr_nodes left + expr_nodes at + 1
  expr_nodes (step left op) = expr_nodes left + 1
  expr_nodes (unary pos op operand) = expr_nodes operand + 1
  expr_nodes (cast pos target operand) = cast_nodes target + expr_nodes operand + 1
  expr_nodes (binary left op right) = expr_nodes left + expr_nodes right + 1
  expr_nodes (instance_of left type_name) = expr_nodes left + type_nodes type_name + 1
  expr_nodes (choose condition first second) =
      expr_nodes condition + expr_nodes first + expr_nodes second + 1
  expr_nodes (assign left op right) = expr_nodes left + expr_nodes right + 1

  pub exprs_nodes : Exprs → ℕ
  exprs_nodes no_exprs = 0
  exprs_nodes (more_exprs e more) = expr_nodes e + exprs_nodes more

  pub args_nodes : Args → ℕ
  args_nodes no_args = 0
  args_nodes (more_args e more) = expr_nodes e + args_nodes more
  args_nodes (all_parameters pos more) = args_nodes more + 1

abbrev pub init_nodes : Init → ℕ
init_nodes no_init = 0
init_nodes (value e) = expr_nodes e
init_nodes (items pos content) = exprs_nodes content + 1

abbrev pub variables_nodes : List Variable → ℕ
variables_nodes [] = 0
variables_nodes (v ∷ more) = init_nodes v.init + 1 + variables_nodes more

abbrev pub local_nodes : Local → ℕ
local_nodes declared =
    type_nodes declared.type_name + variables_nodes declared.variables

abbrev pub for_init_nodes : ForInit → ℕ
for_init_nodes (declares declared) = local_nodes declared
for_init_nodes (starts exprs) = exprs_nodes exprs

abbrev pub optional_nodes : Option Expr → ℕ
optional_nodes None = 0
optional_nodes (Some e) = expr_nodes e

abbrev mutual
  -- a block that is a statement is one node
  pub stmt_nodes : Stmt → ℕ
  stmt_nodes (block body) = block_nodes body
  stmt_nodes (empty pos) = 1
  stmt_nodes (local declared) = local_nodes declared + 1
  stmt_nodes (expr e) = expr_nodes e + 1
  stmt_nodes (if_only pos condition then) = expr_nodes condition + stmt_nodes then + 1
  stmt_nodes (if_else pos condition then other) =
      expr_nodes condition + stmt_nodes then + stmt_nodes other + 1
  stmt_nodes (while_loop pos condition body) = expr_nodes condition + stmt_nodes body + 1
  stmt_nodes (do_loop pos body condition) = stmt_nodes body + expr_nodes condition + 1
  stmt_nodes (for_loop pos init condition steps body) =
      for_init_nodes init + optional_nodes condition + exprs_nodes steps + stmt_nodes body + 1
  stmt_nodes (returns pos e) = optional_nodes e + 1
  stmt_nodes (throws pos e) = expr_nodes e + 1
  stmt_nodes (breaks pos) = 1
  stmt_nodes (continues pos) = 1
  stmt_nodes (tries pos body catches) = block_nodes body + catches_nodes catches + 1

  pub block_nodes : Block → ℕ
  block_nodes (braces pos stmts) = stmts_nodes stmts + 1

  pub stmts_nodes : Stmts → ℕ
  stmts_nodes no_stmts = 0
  stmts_nodes (more_stmts stmt more) = stmt_nodes stmt + stmts_nodes more

  pub catches_nodes : Catches → ℕ
  catches_nodes no_catches = 0
  catches_nodes (more_catches pos class variable body more) =
      name_nodes class + block_nodes body + 1 + catches_nodes more
