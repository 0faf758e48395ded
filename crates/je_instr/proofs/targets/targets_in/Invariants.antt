use Rattle.std.proofs.Common.{length}
use Rattle.je_instr.specs.Decoding.{Begins}
use Rattle.je_instr.proofs.ZipLemmas.{Reached}
use Rattle.je_instr.proofs.targets.targets_in.Given as goal

abbrev pub invariant-loop-rest : goal.invariant-loop-rest
invariant-loop-rest l = Reached (Begins l.starts) l.offsets l.rest l.targets.items

abbrev pub decreases-loop-rest : goal.decreases-loop-rest
decreases-loop-rest l = length l.rest
