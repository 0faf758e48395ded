use Rattle.std.proofs.Common.{length}
use Rattle.je_instr.proofs.ZipLemmas.{Reached}
use Rattle.je_probe.specs.Shown.{IsValue}
use Rattle.je_probe.proofs.value.values_shown.Given as goal

abbrev pub invariant-loop-value : goal.invariant-loop-value
invariant-loop-value l = Reached (IsValue l.consts) l.values l.rest l.shown.items

abbrev pub decreases-loop-value : goal.decreases-loop-value
decreases-loop-value l = length l.rest
