use Rattle.std.proofs.Common.{◌≡◌, ◌+◌, ◌≤◌, map, drop}
use Rattle.je_tree.specs.Nodes.{counted, variables_nodes}
use Rattle.je_tree.specs.Trees.{variable_of}
use Rattle.je_tree.proofs.fragment.variables_count.Given as goal

-- what is counted and what is still to come are all
abbrev pub invariant-loop-variable : goal.invariant-loop-variable
invariant-loop-variable l = record {
  whole : counted (l.count + variables_nodes (map variable_of (drop l.variable-index l.variables))) ≡ counted (variables_nodes (map variable_of l.variables));
  fits : l.count ≤ 4294967295;
}
