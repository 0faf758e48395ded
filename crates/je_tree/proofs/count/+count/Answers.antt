use Rattle.std.proofs.Common.{◌∙◌, ap}
use Rattle.je_tree.specs.declared.trees.Expr.{Expr}
use Rattle.je_tree.specs.Nodes.{counted, expr_nodes}
use Rattle.je_tree.specs.Trees.{expr_of}
use Rattle.je_tree.proofs.CountLemmas.{of_Proceed, of_Call, of_SuperCall, of_ClassCall, of_NameCall, of_New, of_NewArray, of_NewItems, of_Method}
use Rattle.je_tree.proofs.count.+count.Goals as goal

pub expr_count-returns-in-Proceed : goal.expr_count-returns-in-Proceed
expr_count-returns-in-Proceed t c =
    c.node.ensures _ c.args_count.ensures ∙ of_Proceed _ _ _ _ c.in-Proceed.is c.as_slice.ensures

pub expr_count-returns-in-Call : goal.expr_count-returns-in-Call
expr_count-returns-in-Call t c =
    c.node-in-Call.ensures _ c.args_count-in-Call.ensures ∙ of_Call _ _ _ _ c.in-Call.is c.as_slice-in-Call.ensures

pub expr_count-returns-in-ClassCall : goal.expr_count-returns-in-ClassCall
expr_count-returns-in-ClassCall t c =
    c.node-in-ClassCall.ensures _ (c.both.ensures.whole _ _ c.name_count-in-ClassCall.ensures c.args_count-in-ClassCall.ensures) ∙ of_ClassCall _ _ _ _ _ c.in-ClassCall.is c.as_slice-in-ClassCall.ensures

pub expr_count-returns-in-NameCall : goal.expr_count-returns-in-NameCall
expr_count-returns-in-NameCall t c =
    c.node-in-NameCall.ensures _ (c.both-in-NameCall.ensures.whole _ _ c.name_count-in-NameCall.ensures c.args_count-in-NameCall.ensures) ∙ of_NameCall _ _ _ _ _ c.in-NameCall.is c.as_slice-in-NameCall.ensures

pub expr_count-returns-in-SuperCall : goal.expr_count-returns-in-SuperCall
expr_count-returns-in-SuperCall t c =
    c.node-in-SuperCall.ensures _ c.args_count-in-SuperCall.ensures ∙ of_SuperCall _ _ _ _ _ c.in-SuperCall.is c.as_slice-in-SuperCall.ensures

pub expr_count-returns-in-New : goal.expr_count-returns-in-New
expr_count-returns-in-New t c =
    c.node-in-New.ensures _ (c.both-in-New.ensures.whole _ _ c.name_count-in-New.ensures c.args_count-in-New.ensures) ∙ of_New _ _ _ _ _ c.in-New.is c.as_slice-in-New.ensures

pub expr_count-returns-in-NewArray : goal.expr_count-returns-in-NewArray
expr_count-returns-in-NewArray t c =
    c.node-in-NewArray.ensures _ (c.both-in-NewArray.ensures.whole _ _ c.base_count.ensures c.exprs_count.ensures) ∙ of_NewArray _ _ _ _ _ _ c.in-NewArray.is c.as_slice-in-NewArray.ensures

pub expr_count-returns-in-NewItems : goal.expr_count-returns-in-NewItems
expr_count-returns-in-NewItems t c =
    c.node-in-NewItems.ensures _ (c.both-in-NewItems.ensures.whole _ _ c.base_count-in-NewItems.ensures c.exprs_count-in-NewItems.ensures) ∙ of_NewItems _ _ _ _ _ c.in-NewItems.is c.as_slice-in-NewItems.ensures

pub expr_count-returns-in-Method : goal.expr_count-returns-in-Method
expr_count-returns-in-Method t c =
    c.node-in-Method.ensures _ (c.both-in-Method.ensures.whole _ _ (c.expr_count-in-Method.ensures ∙ ap (λ (x : Expr). counted (expr_nodes (expr_of x))) c.get-in-Method.ensures) c.args_count-in-Method.ensures) ∙ of_Method _ _ _ _ _ c.in-Method.is c.as_slice-in-Method.ensures
