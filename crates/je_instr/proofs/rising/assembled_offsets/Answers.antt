use Rattle.std.proofs.Common.{ℕ, ◌<◌, List, length, get_or, sym, ap, ◌∙◌, subst, arith}
use Rattle.je_instr.specs.Offsets.{AreShort}
use Rattle.je_instr.proofs.AssembleLemmas.{rising}
use Rattle.je_instr.proofs.SizeLemmas.{offsets_long, offsets_short}
use Rattle.je_instr.proofs.rising.assembled_offsets.Goals as goal

pub returns-clause-count : goal.returns-clause-count
returns-clause-count c p a is = ap length is.offsets ∙ offsets_long 0 p.instrs

pub returns-clause-rise : goal.returns-clause-rise
returns-clause-rise c p a i j is less lt =
    let P : List ℕ → Type 0 = λ os. j < length os → get_or os i 0 < get_or os j 0 in
    let long = offsets_long 0 p.instrs in
    subst P (sym is.offsets) (λ within. rising 0 p.instrs i j less (omega (arith, long, within))) lt

pub returns-clause-short : goal.returns-clause-short
returns-clause-short c p a i is = subst AreShort (sym is.offsets) (offsets_short p.instrs is.short) i
