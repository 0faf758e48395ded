use Rattle.je_instr.specs.Content.{content_at}
use Rattle.je_probe.specs.Shown.{Says}
use Rattle.je_probe.proofs.IndexLemmas.{one_more}
use Rattle.je_probe.proofs.value.index_of.Goals as goal

pub loop-index-preserved : goal.loop-index-preserved
loop-index-preserved c =
    one_more (λ i. Says c.args.content.now (content_at c.args.consts.now i)) c.loop-index.index
    c.loop-index.invariant c.in_ok-says.field-0 c.in_ok-says.ensures c.if-branch.false
