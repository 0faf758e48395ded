use Rattle.je_vm.proofs.stack.+popped.Given as goal

abbrev pub decreases-popped : goal.decreases-popped
decreases-popped l = l.count
