use Rattle.std.proofs.Common.{◌≡◌, ℕ, ◌<◌, length}
use Rattle.je_instr.specs.Decoding.{Begins}
use Rattle.je_instr.proofs.targets.places_of.Given as goal

abbrev pub invariant-loop-k : goal.invariant-loop-k
invariant-loop-k l = record {
  long : length l.places.items ≡ l.size;
  placed : (offset k : ℕ) → k < l.k → Begins l.starts offset k → Begins l.places.items k offset;
}
