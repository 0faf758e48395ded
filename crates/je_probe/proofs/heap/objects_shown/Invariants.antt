use Rattle.std.proofs.Common.{length}
use Rattle.je_instr.proofs.ZipLemmas.{Reached}
use Rattle.je_probe.specs.Shown.{IsObject}
use Rattle.je_probe.proofs.heap.objects_shown.Given as goal

abbrev pub invariant-loop-object : goal.invariant-loop-object
invariant-loop-object l = Reached IsObject l.objects l.rest l.shown.items

abbrev pub decreases-loop-object : goal.decreases-loop-object
decreases-loop-object l = length l.rest
