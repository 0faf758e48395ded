use Rattle.std.proofs.Common.{◌≡◌, ◌+◌, ◌≤◌, map, drop}
use Rattle.je_tree.specs.Nodes.{counted, exprs_nodes, args_nodes}
use Rattle.je_tree.specs.Tree.{exprs_of, args_of}
use Rattle.je_tree.specs.Trees.{expr_of, arg_of}
use Rattle.je_tree.proofs.count.+count.Given as goal

-- what is counted and what is still to come are all
abbrev pub invariant-args_count-loop-arg : goal.invariant-args_count-loop-arg
invariant-args_count-loop-arg l = record {
  whole : counted (l.count + args_nodes (args_of (map arg_of (drop l.arg-index l.args)))) ≡ counted (args_nodes (args_of (map arg_of l.args)));
  fits : l.count ≤ 4294967295;
}

abbrev pub invariant-exprs_count-loop-e : goal.invariant-exprs_count-loop-e
invariant-exprs_count-loop-e l = record {
  whole : counted (l.count + exprs_nodes (exprs_of (map expr_of (drop l.e-index l.exprs)))) ≡ counted (exprs_nodes (exprs_of (map expr_of l.exprs)));
  fits : l.count ≤ 4294967295;
}
