use Rattle.std.proofs.Common.{◌≡◌, map, take}
use Rattle.je_machine.specs.Value.{number_of}
use Rattle.je_vm.proofs.arrays.numbers_of.Given as goal

abbrev pub invariant-loop-value : goal.invariant-loop-value
invariant-loop-value l = l.numbers.items ≡ map number_of (take l.value-index l.operands)
