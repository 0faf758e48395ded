use Rattle.std.proofs.Common.{◌≡◌, drop}
use Rattle.je_pool.specs.Node.{classes_of}
use Rattle.je_pool.specs.Pool.{kept}
use Rattle.je_pool.proofs.node.place_of.Given as goal

-- the class is found in what is left, if anywhere
abbrev pub invariant-loop-id : goal.invariant-loop-id
invariant-loop-id l = kept l.name (classes_of (drop l.id l.nodes)) ≡ kept l.name (classes_of l.nodes)
