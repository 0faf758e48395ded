use Rattle.std.proofs.Common.{length}
use Rattle.je_instr.specs.CodeProgram.{IsHandlerOf}
use Rattle.je_instr.proofs.ZipLemmas.{Reached}
use Rattle.je_link.proofs.handlers.handlers_of.Given as goal

abbrev pub invariant-loop-entry : goal.invariant-loop-entry
invariant-loop-entry l = Reached (IsHandlerOf l.consts) l.entries l.rest l.handlers

abbrev pub decreases-loop-entry : goal.decreases-loop-entry
decreases-loop-entry l = length l.rest
