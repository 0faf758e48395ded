use Rattle.std.proofs.Common.{rules}
use Rattle.je_lens.proofs.IndexLemmas.{pushed, all_are_new}
use Rattle.je_lens.proofs.tables.each_index.Goals as goal

pub loop-index-preserved : goal.loop-index-preserved
loop-index-preserved c = pushed c.loop-index.index c.loop-index.invariant c.in_ok-push.ensures.items

pub returns : goal.returns
returns c = all_are_new c.args.count c.loop-index.index (search rules) c.loop-index.invariant c.in_ok-push-2.ensures.items
