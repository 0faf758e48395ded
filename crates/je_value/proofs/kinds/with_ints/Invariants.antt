use Rattle.std.proofs.Common.{◌≡◌, ◌++◌, replicate}
use Rattle.je_machine.specs.Value.{IntKind}
use Rattle.je_value.proofs.kinds.with_ints.Given as goal

abbrev pub invariant-loop : goal.invariant-loop
invariant-loop l = l.all ≡ l.fn.kinds ++ replicate l.counter IntKind
