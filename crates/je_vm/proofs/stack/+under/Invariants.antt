use Rattle.je_vm.proofs.stack.+under.Given as goal

abbrev pub decreases-under : goal.decreases-under
decreases-under l = l.count
