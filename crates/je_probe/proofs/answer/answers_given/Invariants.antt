use Rattle.std.proofs.Common.{◌≡◌, map, take}
use Rattle.je_probe.specs.Given.{answer_given}
use Rattle.je_probe.proofs.answer.answers_given.Given as goal

abbrev pub invariant-loop-one : goal.invariant-loop-one
invariant-loop-one l = l.answers ≡ map (answer_given l.consts) (take l.one-index l.given)
