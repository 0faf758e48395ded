use Rattle.std.proofs.Common.{length}
use Rattle.je_instr.specs.Decoding.{BeginsCase}
use Rattle.je_instr.proofs.ZipLemmas.{Reached}
use Rattle.je_instr.proofs.targets.cases_in.Given as goal

abbrev pub invariant-loop-rest : goal.invariant-loop-rest
invariant-loop-rest l = Reached (BeginsCase l.starts) l.located l.rest l.cases.items

abbrev pub decreases-loop-rest : goal.decreases-loop-rest
decreases-loop-rest l = length l.rest
