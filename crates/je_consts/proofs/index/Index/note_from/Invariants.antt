use Rattle.std.proofs.Common.{take}
use Rattle.je_consts.specs.Indexed.{IsIndexOf}
use Rattle.je_consts.proofs.index.Index.note_from.Given as goal

abbrev pub invariant-loop-i : goal.invariant-loop-i
invariant-loop-i l = IsIndexOf (take l.i l.places) l.self
