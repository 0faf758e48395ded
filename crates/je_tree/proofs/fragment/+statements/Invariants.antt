use Rattle.std.proofs.Common.{◌≡◌, ◌+◌, ◌≤◌, map, drop}
use Rattle.je_tree.specs.Nodes.{counted, stmts_nodes, catches_nodes}
use Rattle.je_tree.specs.Tree.{stmts_of, catches_of}
use Rattle.je_tree.specs.Trees.{stmt_of, catch_of}
use Rattle.je_tree.proofs.fragment.+statements.Given as goal

-- what is counted and what is still to come are all
abbrev pub invariant-stmts_count-loop-stmt : goal.invariant-stmts_count-loop-stmt
invariant-stmts_count-loop-stmt l = record {
  whole : counted (l.count + stmts_nodes (stmts_of (map stmt_of (drop l.stmt-index l.stmts)))) ≡ counted (stmts_nodes (stmts_of (map stmt_of l.stmts)));
  fits : l.count ≤ 4294967295;
}

abbrev pub invariant-catches_count-loop-catch : goal.invariant-catches_count-loop-catch
invariant-catches_count-loop-catch l = record {
  whole : counted (l.count + catches_nodes (catches_of (map catch_of (drop l.catch-index l.catches)))) ≡ counted (catches_nodes (catches_of (map catch_of l.catches)));
  fits : l.count ≤ 4294967295;
}
