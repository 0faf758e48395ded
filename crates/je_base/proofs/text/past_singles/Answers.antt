use Rattle.std.proofs.Common.{sym, ◌∙◌}
use Rattle.je_base.proofs.TextLemmas.{skips_more}
use Rattle.je_base.proofs.text.past_singles.Goals as goal

pub loop-block-preserved : goal.loop-block-preserved
loop-block-preserved c =
    let split = c.in-Some.ensures.cases in
    let tested = sym c.are_singles.ensures ∙ c.if-not-are_singles.false in
    skips_more 8 c.args.bytes.now c.loop-block.left.now c.in-Some.block.now c.in-Some.rest.now split.0 split.1 tested c.loop-block.invariant
