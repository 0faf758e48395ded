use Rattle.std.specs.List.{AllByRecursion}
use Rattle.je_probe.specs.Shown.{IsStatic}
use Rattle.je_probe.proofs.statics.statics_shown.Given as goal

abbrev pub invariant-loop-operation : goal.invariant-loop-operation
invariant-loop-operation l = AllByRecursion (IsStatic l.consts l.heap) l.shown.items
