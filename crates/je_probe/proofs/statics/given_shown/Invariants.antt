use Rattle.std.specs.List.{AllByRecursion}
use Rattle.je_probe.specs.Shown.{IsStatic}
use Rattle.je_probe.proofs.statics.given_shown.Given as goal

abbrev pub invariant-loop-one : goal.invariant-loop-one
invariant-loop-one l = AllByRecursion (IsStatic l.consts l.heap) l.shown.items
