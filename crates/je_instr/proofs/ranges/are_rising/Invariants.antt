use Rattle.std.proofs.Common.{◌↔◌, length}
use Rattle.je_instr.specs.Allowed.{AreRising}
use Rattle.je_instr.proofs.ranges.are_rising.Given as goal

abbrev pub invariant-loop-rest : goal.invariant-loop-rest
invariant-loop-rest l = AreRising l.rest ↔ AreRising l.cases

abbrev pub decreases-loop-rest : goal.decreases-loop-rest
decreases-loop-rest l = length l.rest
