use Rattle.std.proofs.Common.{length}
use Rattle.je_vm.proofs.start.+enter.Given as goal

abbrev pub decreases-enter : goal.decreases-enter
decreases-enter l = length l.kinds.now
