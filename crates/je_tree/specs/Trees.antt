-- The trees of the program, as those of the grammar.
use Rattle.std.specs.Prelude.{map, Option, Some, None}
use Rattle.std.specs.Option.{option_map}
use Rattle.je_tree.specs.declared.trees.Expr.{Expr, fold-Expr}
use Rattle.je_tree.specs.declared.trees.Arg.{Arg, fold-Arg}
use Rattle.je_tree.specs.declared.trees.Arg.TheOpen.{Arg-F, Expr-F}
use Rattle.je_tree.specs.declared.trees.Stmt.TheOpen.{Stmt-F, Block-F, Catch-F}
use Rattle.je_tree.specs.declared.trees.Stmt.{Stmt, fold-Stmt}
use Rattle.je_tree.specs.declared.trees.Block.{Block, fold-Block}
use Rattle.je_tree.specs.declared.trees.Catch.{Catch, fold-Catch}
use Rattle.je_tree.specs.declared.trees.Local.{Local}
use Rattle.je_tree.specs.declared.trees.Variable.{Variable}
use Rattle.je_tree.specs.declared.trees.Init.{Init}
use Rattle.je_tree.specs.declared.trees.Init.TheVariants as init
use Rattle.je_tree.specs.declared.trees.ForInit.{ForInit}
use Rattle.je_tree.specs.declared.trees.ForInit.TheVariants as for_init
use Rattle.je_tree.specs.declared.trees.Fragment.{Fragment}
use Rattle.je_tree.specs.Tree as tree
use Rattle.je_tree.specs.Tree.{args_of, exprs_of, stmts_of, catches_of}

-- one level of an argument and of an expression, of which the parts are trees already
abbrev pub arg_level : Arg-F tree.Arg tree.Expr → tree.Arg
arg_level (Arg-F.Value e) = tree.argument e
arg_level (Arg-F.Parameters pos) = tree.parameters pos

abbrev pub expr_level : Expr-F tree.Arg tree.Expr → tree.Expr
expr_level (Expr-F.Literal pos value) = tree.literal pos value
expr_level (Expr-F.This pos) = tree.this pos
expr_level (Expr-F.Dollar pos text) = tree.dollar pos text
expr_level (Expr-F.Paren pos more inner) = tree.paren pos more inner
expr_level (Expr-F.Proceed pos args) = tree.proceed pos (args_of args)
expr_level (Expr-F.Call ident args) = tree.call ident (args_of args)
expr_level (Expr-F.Name name) = tree.name name
expr_level (Expr-F.ClassField name ident) = tree.class_field name ident
expr_level (Expr-F.ClassCall name ident args) = tree.class_call name ident (args_of args)
expr_level (Expr-F.NameCall name ident args) = tree.name_call name ident (args_of args)
expr_level (Expr-F.SuperCall pos ident args) = tree.super_call pos ident (args_of args)
expr_level (Expr-F.New pos name args) = tree.new_object pos name (args_of args)
expr_level (Expr-F.NewArray pos base sizes more) = tree.new_array pos base (exprs_of sizes) more
expr_level (Expr-F.NewItems pos base items) = tree.new_items pos base (exprs_of items)
expr_level (Expr-F.Field left ident) = tree.field left ident
expr_level (Expr-F.Method left ident args) = tree.method left ident (args_of args)
expr_level (Expr-F.Index left at) = tree.index left at
expr_level (Expr-F.Step left op) = tree.step left op
expr_level (Expr-F.Unary pos op operand) = tree.unary pos op operand
expr_level (Expr-F.Cast pos to operand) = tree.cast pos to operand
expr_level (Expr-F.Binary left op right) = tree.binary left op right
expr_level (Expr-F.InstanceOf left type_name) = tree.instance_of left type_name
expr_level (Expr-F.Choose condition first second) = tree.choose condition first second
expr_level (Expr-F.Assign left op right) = tree.assign left op right

abbrev pub expr_of : Expr → tree.Expr
expr_of e = fold-Expr tree.Arg tree.Expr arg_level expr_level e

abbrev pub arg_of : Arg → tree.Arg
arg_of a = fold-Arg tree.Arg tree.Expr arg_level expr_level a

abbrev pub init_of : Option Init → tree.Init
init_of None = tree.no_init
init_of (Some (init.Value e)) = tree.value (expr_of e)
init_of (Some (init.Items pos items)) = tree.items pos (exprs_of (map expr_of items))

abbrev pub variable_of : Variable → tree.Variable
variable_of v = record { ident = v.ident; init = init_of v.init }

abbrev pub local_of : Local → tree.Local
local_of l = record { type_name = l.type_name; variables = map variable_of l.variables }

abbrev pub for_init_of : ForInit → tree.ForInit
for_init_of (for_init.Local l) = tree.declares (local_of l)
for_init_of (for_init.Exprs exprs) = tree.starts (exprs_of (map expr_of exprs))

-- one level of a statement, a block and a catch
abbrev pub stmt_level : Stmt-F tree.Stmt tree.Block tree.Catch → tree.Stmt
stmt_level (Stmt-F.Block body) = tree.block body
stmt_level (Stmt-F.Empty pos) = tree.empty pos
stmt_level (Stmt-F.Local l) = tree.local (local_of l)
stmt_level (Stmt-F.Expr e) = tree.expr (expr_of e)
stmt_level (Stmt-F.If pos condition then None) = tree.if_only pos (expr_of condition) then
stmt_level (Stmt-F.If pos condition then (Some other)) =
    tree.if_else pos (expr_of condition) then other
stmt_level (Stmt-F.While pos condition body) = tree.while_loop pos (expr_of condition) body
stmt_level (Stmt-F.Do pos body condition) = tree.do_loop pos body (expr_of condition)
stmt_level (Stmt-F.For pos first condition steps body) =
    tree.for_loop pos (for_init_of first) (option_map expr_of condition)
    (exprs_of (map expr_of steps)) body
stmt_level (Stmt-F.Return pos value) = tree.returns pos (option_map expr_of value)
stmt_level (Stmt-F.Throw pos e) = tree.throws pos (expr_of e)
stmt_level (Stmt-F.Break pos) = tree.breaks pos
stmt_level (Stmt-F.Continue pos) = tree.continues pos
stmt_level (Stmt-F.Try pos body catches) = tree.tries pos body (catches_of catches)

abbrev pub block_level : Block-F tree.Stmt tree.Block tree.Catch → tree.Block
block_level b = tree.braces b.pos (stmts_of b.stmts)

abbrev pub catch_level : Catch-F tree.Stmt tree.Block tree.Catch → tree.Catch
catch_level c = record {
  pos = c.pos;
  class_name = c.class_name;
  variable = c.variable;
  body = c.block;
}

abbrev pub stmt_of : Stmt → tree.Stmt
stmt_of s = fold-Stmt tree.Stmt tree.Block tree.Catch stmt_level block_level catch_level s

abbrev pub catch_of : Catch → tree.Catch
catch_of c = fold-Catch tree.Stmt tree.Block tree.Catch stmt_level block_level catch_level c

abbrev pub block_of : Block → tree.Block
block_of b = fold-Block tree.Stmt tree.Block tree.Catch stmt_level block_level catch_level b

-- the tree of a fragment
abbrev pub fragment_of : Fragment → tree.Block
fragment_of f = block_of f.block
