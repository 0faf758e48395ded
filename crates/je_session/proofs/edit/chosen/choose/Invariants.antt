use Rattle.std.proofs.Common.{take}
use Rattle.je_session.specs.Splice.{AreChosen}
use Rattle.je_session.proofs.edit.chosen.choose.Given as goal

abbrev pub invariant-loop-instr : goal.invariant-loop-instr
invariant-loop-instr l = AreChosen l.consts l.rules (take l.instr-index l.instrs) l.chosen.items
