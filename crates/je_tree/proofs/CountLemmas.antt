-- Numbers of nodes of lists of parts.
use Rattle.std.proofs.Common.{◌≡◌, ◌∙◌, ℕ, ◌+◌, List, ap, sym, map}
use Rattle.je_base.specs.declared.pos.Pos.{Pos}
use Rattle.je_tree.specs.declared.names.Base.{Base}
use Rattle.je_tree.specs.declared.names.Ident.{Ident}
use Rattle.je_tree.specs.declared.names.Name.{Name}
use Rattle.je_tree.specs.declared.trees.Arg.{Arg}
use Rattle.je_tree.specs.declared.trees.Arg.TheFolds.{fold-roll-Expr}
use Rattle.je_tree.specs.declared.trees.Arg.TheOpen.{Expr-F}
use Rattle.je_tree.specs.declared.trees.Expr.{Expr}
use Rattle.je_tree.specs.declared.trees.Expr.TheVariants as program
use Rattle.je_tree.specs.declared.trees.Expr.TheVariants.{rolls-Proceed, rolls-Call, rolls-SuperCall, rolls-ClassCall, rolls-NameCall, rolls-New, rolls-NewArray, rolls-NewItems, rolls-Method}
use Rattle.je_tree.specs.declared.trees.Block.{Block, out-Block}
use Rattle.je_tree.specs.declared.trees.Catch.{Catch}
use Rattle.je_tree.specs.declared.trees.Stmt.{Stmt}
use Rattle.je_tree.specs.declared.trees.Stmt.TheFolds.{fold-roll-Stmt, fold_out-Block}
use Rattle.je_tree.specs.declared.trees.Stmt.TheOpen.{Stmt-F}
use Rattle.je_tree.specs.declared.trees.Stmt.TheVariants as statement
use Rattle.je_tree.specs.declared.trees.Stmt.TheVariants.{rolls-Try}
use Rattle.je_tree.specs.Nodes.{counted, name_nodes, base_nodes, expr_nodes, exprs_nodes, args_nodes}
use Rattle.je_tree.specs.Nodes.{stmt_nodes, block_nodes, stmts_nodes, catches_nodes}
use Rattle.je_tree.specs.Tree as tree
use Rattle.je_tree.specs.Tree.{exprs_of, args_of, stmts_of, catches_of}
use Rattle.je_tree.specs.Trees.{arg_level, expr_level, expr_of, arg_of}
use Rattle.je_tree.specs.Trees.{stmt_level, block_level, catch_level, stmt_of, block_of, catch_of}

-- of an expression of one level
level_nodes : (e : Expr) (x : tree.Expr) (n : ℕ) → expr_of e ≡ x → expr_nodes x ≡ n → counted n ≡ counted (expr_nodes (expr_of e))
level_nodes e x n is has = ap counted (sym (ap expr_nodes is ∙ has))

pub of_Proceed : (e : Expr) (pos : Pos) (args seen : List Arg) → e ≡ program.Proceed pos args → seen ≡ args
    → counted (args_nodes (args_of (map arg_of seen)) + 1) ≡ counted (expr_nodes (expr_of e))
of_Proceed e pos args seen is same =
    level_nodes e (tree.proceed pos (args_of (map arg_of args))) _
    (ap expr_of (is ∙ sym (rolls-Proceed pos args)) ∙ fold-roll-Expr tree.Arg tree.Expr arg_level expr_level (Expr-F.Proceed pos args))
    (ap (λ (x : List Arg). args_nodes (args_of (map arg_of x)) + 1) (sym same))

pub of_Call : (e : Expr) (ident : Ident) (args seen : List Arg) → e ≡ program.Call ident args → seen ≡ args
    → counted (args_nodes (args_of (map arg_of seen)) + 1) ≡ counted (expr_nodes (expr_of e))
of_Call e ident args seen is same =
    level_nodes e (tree.call ident (args_of (map arg_of args))) _
    (ap expr_of (is ∙ sym (rolls-Call ident args)) ∙ fold-roll-Expr tree.Arg tree.Expr arg_level expr_level (Expr-F.Call ident args))
    (ap (λ (x : List Arg). args_nodes (args_of (map arg_of x)) + 1) (sym same))

pub of_SuperCall : (e : Expr) (pos : Pos) (ident : Ident) (args seen : List Arg) → e ≡ program.SuperCall pos ident args → seen ≡ args
    → counted (args_nodes (args_of (map arg_of seen)) + 1) ≡ counted (expr_nodes (expr_of e))
of_SuperCall e pos ident args seen is same =
    level_nodes e (tree.super_call pos ident (args_of (map arg_of args))) _
    (ap expr_of (is ∙ sym (rolls-SuperCall pos ident args)) ∙ fold-roll-Expr tree.Arg tree.Expr arg_level expr_level (Expr-F.SuperCall pos ident args))
    (ap (λ (x : List Arg). args_nodes (args_of (map arg_of x)) + 1) (sym same))

pub of_ClassCall : (e : Expr) (n : Name) (ident : Ident) (args seen : List Arg) → e ≡ program.ClassCall n ident args → seen ≡ args
    → counted (name_nodes n + args_nodes (args_of (map arg_of seen)) + 1) ≡ counted (expr_nodes (expr_of e))
of_ClassCall e n ident args seen is same =
    level_nodes e (tree.class_call n ident (args_of (map arg_of args))) _
    (ap expr_of (is ∙ sym (rolls-ClassCall n ident args)) ∙ fold-roll-Expr tree.Arg tree.Expr arg_level expr_level (Expr-F.ClassCall n ident args))
    (ap (λ (x : List Arg). name_nodes n + args_nodes (args_of (map arg_of x)) + 1) (sym same))

pub of_NameCall : (e : Expr) (n : Name) (ident : Ident) (args seen : List Arg) → e ≡ program.NameCall n ident args → seen ≡ args
    → counted (name_nodes n + args_nodes (args_of (map arg_of seen)) + 1) ≡ counted (expr_nodes (expr_of e))
of_NameCall e n ident args seen is same =
    level_nodes e (tree.name_call n ident (args_of (map arg_of args))) _
    (ap expr_of (is ∙ sym (rolls-NameCall n ident args)) ∙ fold-roll-Expr tree.Arg tree.Expr arg_level expr_level (Expr-F.NameCall n ident args))
    (ap (λ (x : List Arg). name_nodes n + args_nodes (args_of (map arg_of x)) + 1) (sym same))

pub of_New : (e : Expr) (pos : Pos) (n : Name) (args seen : List Arg) → e ≡ program.New pos n args → seen ≡ args
    → counted (name_nodes n + args_nodes (args_of (map arg_of seen)) + 1) ≡ counted (expr_nodes (expr_of e))
of_New e pos n args seen is same =
    level_nodes e (tree.new_object pos n (args_of (map arg_of args))) _
    (ap expr_of (is ∙ sym (rolls-New pos n args)) ∙ fold-roll-Expr tree.Arg tree.Expr arg_level expr_level (Expr-F.New pos n args))
    (ap (λ (x : List Arg). name_nodes n + args_nodes (args_of (map arg_of x)) + 1) (sym same))

pub of_NewItems : (e : Expr) (pos : Pos) (b : Base) (args seen : List Expr) → e ≡ program.NewItems pos b args → seen ≡ args
    → counted (base_nodes b + exprs_nodes (exprs_of (map expr_of seen)) + 1) ≡ counted (expr_nodes (expr_of e))
of_NewItems e pos b args seen is same =
    level_nodes e (tree.new_items pos b (exprs_of (map expr_of args))) _
    (ap expr_of (is ∙ sym (rolls-NewItems pos b args)) ∙ fold-roll-Expr tree.Arg tree.Expr arg_level expr_level (Expr-F.NewItems pos b args))
    (ap (λ (x : List Expr). base_nodes b + exprs_nodes (exprs_of (map expr_of x)) + 1) (sym same))

pub of_Method : (e : Expr) (left : Expr) (ident : Ident) (args seen : List Arg) → e ≡ program.Method left ident args → seen ≡ args
    → counted (expr_nodes (expr_of left) + args_nodes (args_of (map arg_of seen)) + 1) ≡ counted (expr_nodes (expr_of e))
of_Method e left ident args seen is same =
    level_nodes e (tree.method (expr_of left) ident (args_of (map arg_of args))) _
    (ap expr_of (is ∙ sym (rolls-Method left ident args)) ∙ fold-roll-Expr tree.Arg tree.Expr arg_level expr_level (Expr-F.Method left ident args))
    (ap (λ (x : List Arg). expr_nodes (expr_of left) + args_nodes (args_of (map arg_of x)) + 1) (sym same))

pub of_NewArray : (e : Expr) (pos : Pos) (b : Base) (sizes seen : List Expr) (more : ℕ) → e ≡ program.NewArray pos b sizes more → seen ≡ sizes
    → counted (base_nodes b + exprs_nodes (exprs_of (map expr_of seen)) + 1) ≡ counted (expr_nodes (expr_of e))
of_NewArray e pos b sizes seen more is same =
    level_nodes e (tree.new_array pos b (exprs_of (map expr_of sizes)) more) _
    (ap expr_of (is ∙ sym (rolls-NewArray pos b sizes more)) ∙ fold-roll-Expr tree.Arg tree.Expr arg_level expr_level (Expr-F.NewArray pos b sizes more))
    (ap (λ (x : List Expr). base_nodes b + exprs_nodes (exprs_of (map expr_of x)) + 1) (sym same))

pub of_block : (b : Block) (seen : List Stmt) → seen ≡ (out-Block b).stmts
    → counted (stmts_nodes (stmts_of (map stmt_of seen)) + 1) ≡ counted (block_nodes (block_of b))
of_block b seen same =
    ap (λ (x : List Stmt). counted (stmts_nodes (stmts_of (map stmt_of x)) + 1)) same
    ∙ ap (λ (x : tree.Block). counted (block_nodes x)) (sym (fold_out-Block tree.Stmt tree.Block tree.Catch stmt_level block_level catch_level b))

pub of_Try : (s : Stmt) (pos : Pos) (b : Block) (catches seen : List Catch) → s ≡ statement.Try pos b catches → seen ≡ catches
    → counted (block_nodes (block_of b) + catches_nodes (catches_of (map catch_of seen)) + 1) ≡ counted (stmt_nodes (stmt_of s))
of_Try s pos b catches seen is same =
    ap (λ (x : List Catch). counted (block_nodes (block_of b) + catches_nodes (catches_of (map catch_of x)) + 1)) same
    ∙ ap (λ (x : tree.Stmt). counted (stmt_nodes x)) (sym (ap stmt_of (is ∙ sym (rolls-Try pos b catches)) ∙ fold-roll-Stmt tree.Stmt tree.Block tree.Catch stmt_level block_level catch_level (Stmt-F.Try pos b catches)))
