use Rattle.std.proofs.Common.{◌↔◌, length}
use Rattle.std.specs.List.{AllByRecursion}
use Rattle.je_instr.specs.Assembling.{IsCaught}
use Rattle.je_shapes.proofs.allowed.are_caught.Given as goal

abbrev pub invariant-loop-handler : goal.invariant-loop-handler
invariant-loop-handler l = AllByRecursion (IsCaught l.consts) l.rest ↔ AllByRecursion (IsCaught l.consts) l.handlers

abbrev pub decreases-loop-handler : goal.decreases-loop-handler
decreases-loop-handler l = length l.rest
