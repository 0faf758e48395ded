use Rattle.std.proofs.Common.{◌≡◌, length}
use Rattle.std.specs.FinMap.{empty}
use Rattle.je_probe.specs.Given.{statics_given}
use Rattle.je_probe.proofs.heap.statics_given.Given as goal

abbrev pub invariant-loop-one : goal.invariant-loop-one
invariant-loop-one l =
    statics_given l.consts l.rest l.fields ≡ statics_given l.consts l.given empty

abbrev pub decreases-loop-one : goal.decreases-loop-one
decreases-loop-one l = length l.rest
