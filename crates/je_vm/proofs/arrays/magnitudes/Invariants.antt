use Rattle.std.proofs.Common.{◌≡◌, map, take}
use Rattle.std.specs.Prelude.{unsigned_abs}
use Rattle.je_vm.proofs.arrays.magnitudes.Given as goal

abbrev pub invariant-loop-size : goal.invariant-loop-size
invariant-loop-size l = l.magnitudes.items ≡ map unsigned_abs (take l.size-index l.sizes)
