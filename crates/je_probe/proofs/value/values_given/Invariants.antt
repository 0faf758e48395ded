use Rattle.std.proofs.Common.{◌≡◌, map, take}
use Rattle.je_probe.specs.Given.{value_given}
use Rattle.je_probe.proofs.value.values_given.Given as goal

abbrev pub invariant-loop-one : goal.invariant-loop-one
invariant-loop-one l = l.values ≡ map (value_given l.consts) (take l.one-index l.given)
