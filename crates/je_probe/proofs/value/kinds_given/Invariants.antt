use Rattle.std.proofs.Common.{◌≡◌, map, take}
use Rattle.je_probe.specs.Given.{kind_given}
use Rattle.je_probe.proofs.value.kinds_given.Given as goal

abbrev pub invariant-loop-one : goal.invariant-loop-one
invariant-loop-one l = l.kinds ≡ map kind_given (take l.one-index l.given)
