use Rattle.std.proofs.Common.{◌∙◌}
use Rattle.je_tree.proofs.CountLemmas.{of_block, of_Try}
use Rattle.je_tree.proofs.fragment.+statements.Goals as goal

pub block_count-returns : goal.block_count-returns
block_count-returns t c = c.node.ensures _ c.stmts_count.ensures ∙ of_block _ _ c.as_slice.ensures

pub stmt_count-returns-in-Try : goal.stmt_count-returns-in-Try
stmt_count-returns-in-Try t c =
    c.node-in-Try.ensures _ (c.both-in-Try.ensures.whole _ _ c.block_count-in-Try.ensures c.catches_count.ensures)
    ∙ of_Try _ _ _ _ _ c.in-Try.is c.as_slice-in-Try.ensures
