use Rattle.std.proofs.Common.{ℕ, ◌+◌, ◌<◌, IfSome}
use Rattle.je_consts.specs.Pool.{const_at, Names}
use Rattle.je_consts.proofs.check.misfit.Given as goal

abbrev pub invariant-loop-i : goal.invariant-loop-i
invariant-loop-i l = (i : ℕ) → i < l.i + 1 → IfSome (const_at l.places i) (Names l.places)
