use Rattle.std.proofs.Common.{◌≡◌, replicate}
use Rattle.je_machine.specs.Value.{zero_of}
use Rattle.je_heap.proofs.array.zeros.Given as goal

abbrev pub invariant-loop : goal.invariant-loop
invariant-loop l = l.values.items ≡ replicate l.counter (zero_of l.kind)
