use Rattle.std.proofs.Common.{◌≡◌, replicate}
use Rattle.je_heap.proofs.array.brackets.Given as goal

abbrev pub invariant-loop : goal.invariant-loop
invariant-loop l = l.bytes.items ≡ replicate l.counter 91
