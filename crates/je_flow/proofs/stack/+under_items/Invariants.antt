use Rattle.je_flow.proofs.stack.+under_items.Given as goal

abbrev pub decreases-under_items : goal.decreases-under_items
decreases-under_items l = l.count
