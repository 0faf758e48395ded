use Rattle.std.proofs.Common.{◌≡◌, ℕ, ◌+◌, ◌<◌, Some}
use Rattle.je_consts.specs.declared.constant.Const.TheVariants.{Utf8}
use Rattle.je_consts.specs.Pool.{const_at}
use Rattle.je_consts.proofs.adding.index_of_text.Given as goal

abbrev pub invariant-loop-i : goal.invariant-loop-i
invariant-loop-i l = (i : ℕ) → i < l.i + 1 → const_at l.places i ≡ Some (Utf8 l.text) → ⊥
