use Rattle.std.proofs.Common.{ℕ, ◌<◌}
use Rattle.je_instr.specs.Content.{content_at}
use Rattle.je_probe.specs.Shown.{Says}
use Rattle.je_probe.proofs.value.index_of.Given as goal

abbrev pub invariant-loop-index : goal.invariant-loop-index
invariant-loop-index l =
    (i : ℕ) → 0 < i → i < l.index → Says l.content (content_at l.consts i) → ⊥
