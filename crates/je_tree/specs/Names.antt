-- The names of a fragment, in their order: each Name, also one of a type, after `new`, in a cast,
-- in a catch and before `#`. The method that a Name ends with before `(` is none of its
-- identifiers.
use Rattle.std.specs.Prelude.{ℕ, ◌+◌, ◌≤◌, List, [], ◌∷◌, ◌++◌, length, Option, Some, None}
use Rattle.std.specs.List.{AllByRecursion}
use Rattle.je_tokens.specs.Words.{most_characters}
use Rattle.je_tree.specs.declared.names.Ident.{Ident}
use Rattle.je_tree.specs.declared.names.Name.{Name}
use Rattle.je_tree.specs.declared.names.Base.{Base}
use Rattle.je_tree.specs.declared.names.Base.TheVariants as base
use Rattle.je_tree.specs.declared.names.TypeName.{TypeName}
use Rattle.je_tree.specs.declared.operators.CastTo.{CastTo}
use Rattle.je_tree.specs.declared.operators.CastTo.TheVariants as to
use Rattle.je_tree.specs.Tree.{Expr, literal, this, dollar, paren, proceed, call, name}
use Rattle.je_tree.specs.Tree.{class_field, class_call, name_call, super_call, new_object}
use Rattle.je_tree.specs.Tree.{new_array, new_items, field, method, index, step, unary, cast}
use Rattle.je_tree.specs.Tree.{binary, instance_of, choose, assign}
use Rattle.je_tree.specs.Tree.{Exprs, no_exprs, more_exprs, Args, no_args, more_args}
use Rattle.je_tree.specs.Tree.{all_parameters, Init, no_init, value, items}
use Rattle.je_tree.specs.Tree.{Variable, Local}
use Rattle.je_tree.specs.Tree.{ForInit, declares, starts, Stmt, block, empty, local, expr}
use Rattle.je_tree.specs.Tree.{if_only, if_else, while_loop, do_loop, for_loop, returns, throws}
use Rattle.je_tree.specs.Tree.{breaks, continues, tries, Block, braces, Stmts, no_stmts, more_stmts}
use Rattle.je_tree.specs.Tree.{Catches, no_catches, more_catches}

abbrev pub base_names : Base → List Name
base_names (base.Prim p) = []
base_names (base.Class n) = n ∷ []

abbrev pub type_names : TypeName → List Name
type_names type_name = base_names type_name.base

abbrev pub cast_names : CastTo → List Name
cast_names (to.Type type_name) = type_names type_name
cast_names to.Result = []
cast_names to.Wrapper = []

abbrev mutual
  pub expr_names : Expr → List Name
  expr_names (literal pos v) = []
  expr_names (this pos) = []
  expr_names (dollar pos text) = []
  expr_names (paren pos more inner) = expr_names inner
  expr_names (proceed pos args) = args_names args
  expr_names (call ident args) = args_names args
  expr_names (name n) = n ∷ []
  expr_names (class_field n ident) = n ∷ []
  expr_names (class_call n ident args) = n ∷ args_names args
  expr_names (name_call n ident args) = n ∷ args_names args
  expr_names (super_call pos ident args) = args_names args
  expr_names (new_object pos n args) = n ∷ args_names args
  expr_names (new_array pos b sizes more) = base_names b ++ exprs_names sizes
  expr_names (new_items pos b content) = base_names b ++ exprs_names content
  expr_names (field left ident) = expr_names left
  expr_names (method left ident args) = expr_names left ++ args_names args
  expr_names (index left at) = expr_names left ++ expr_names at
  expr_names (step left op) = expr_names left
  expr_names (unary pos op operand) = expr_names operand
  expr_names (cast pos target operand) = cast_names target ++ expr_names operand
  expr_names (binary left op right) = expr_names left ++ expr_names right
  expr_names (instance_of left type_name) = expr_names left ++ type_names type_name
  expr_names (choose condition first second) =
      expr_names condition ++ expr_names first ++ expr_names second
  expr_names (assign left op right) = expr_names left ++ expr_names right

  pub exprs_names : Exprs → List Name
  exprs_names no_exprs = []
  exprs_names (more_exprs e more) = expr_names e ++ exprs_names more

  pub args_names : Args → List Name
  args_names no_args = []
  args_names (more_args e more) = expr_names e ++ args_names more
  args_names (all_parameters pos more) = args_names more

abbrev pub init_names : Init → List Name
init_names no_init = []
init_names (value e) = expr_names e
init_names (items pos content) = exprs_names content

abbrev pub variables_names : List Variable → List Name
variables_names [] = []
variables_names (v ∷ more) = init_names v.init ++ variables_names more

abbrev pub local_names : Local → List Name
local_names declared = type_names declared.type_name ++ variables_names declared.variables

abbrev pub for_init_names : ForInit → List Name
for_init_names (declares declared) = local_names declared
for_init_names (starts exprs) = exprs_names exprs

abbrev pub optional_names : Option Expr → List Name
optional_names None = []
optional_names (Some e) = expr_names e

abbrev mutual
  pub stmt_names : Stmt → List Name
  stmt_names (block body) = block_names body
  stmt_names (empty pos) = []
  stmt_names (local declared) = local_names declared
  stmt_names (expr e) = expr_names e
  stmt_names (if_only pos condition then) = expr_names condition ++ stmt_names then
  stmt_names (if_else pos condition then other) =
      expr_names condition ++ stmt_names then ++ stmt_names other
  stmt_names (while_loop pos condition body) = expr_names condition ++ stmt_names body
  stmt_names (do_loop pos body condition) = stmt_names body ++ expr_names condition
  stmt_names (for_loop pos init condition steps body) =
      for_init_names init ++ optional_names condition ++ exprs_names steps ++ stmt_names body
  stmt_names (returns pos e) = optional_names e
  stmt_names (throws pos e) = expr_names e
  stmt_names (breaks pos) = []
  stmt_names (continues pos) = []
  stmt_names (tries pos body catches) = block_names body ++ catches_names catches

  pub block_names : Block → List Name
  block_names (braces pos stmts) = stmts_names stmts

  pub stmts_names : Stmts → List Name
  stmts_names no_stmts = []
  stmts_names (more_stmts stmt more) = stmt_names stmt ++ stmts_names more

  pub catches_names : Catches → List Name
  catches_names no_catches = []
  catches_names (more_catches pos class variable body more) =
      class ∷ block_names body ++ catches_names more

-- ---- how long names are

-- The bytes of identifiers with dots between them. Each is a character, since all are of ASCII.
abbrev pub dotted_length : List Ident → ℕ
dotted_length [] = 0
dotted_length (ident ∷ []) = length ident.text
dotted_length (ident ∷ next ∷ more) = length ident.text + 1 + dotted_length (next ∷ more)

abbrev pub FitsName : Name → Type 0
FitsName n = dotted_length n.parts ≤ most_characters

-- the limit on dotted names, which stands apart from the grammar
abbrev pub FitsNames : Block → Type 0
FitsNames body = AllByRecursion FitsName (block_names body)
