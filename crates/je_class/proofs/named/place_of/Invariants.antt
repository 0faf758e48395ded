use Rattle.std.proofs.Common.{ℕ, ◌<◌}
use Rattle.std.specs.Prelude.{IfSome, slice_get}
use Rattle.je_class.specs.Class.{IsNamed}
use Rattle.je_class.proofs.named.place_of.Given as goal

abbrev pub invariant-loop-at : goal.invariant-loop-at
invariant-loop-at l = (i : ℕ) → i < l.at → IfSome (slice_get l.methods i) (λ m. IsNamed l.consts l.name l.descriptor m → ⊥)
