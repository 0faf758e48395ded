use Rattle.std.proofs.Common.{sym, ◌∙◌}
use Rattle.je_pool.proofs.NodeLemmas.{found_at}
use Rattle.je_pool.proofs.node.place_of.Goals as goal

pub returns-then-eq-clause-kept : goal.returns-then-eq-clause-kept
returns-then-eq-clause-kept c =
    found_at c.args.name.now c.args.nodes.now c.loop-id.id c.index-nodes-id.result c.requires c.loop-id-test.true (sym c.eq.ensures.value ∙ c.if-eq.true) c.loop-id.invariant
