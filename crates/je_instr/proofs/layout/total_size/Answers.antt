use Rattle.std.proofs.Common.{◌≡◌, ◌+◌, ◌∷◌, min, sym, ap, ◌∙◌}
use Rattle.je_instr.specs.Shortest.{short_size, short_end}
use Rattle.je_instr.proofs.LayoutLemmas.{end_still}
use Rattle.je_instr.proofs.layout.total_size.Goals as goal

pub loop-instr-preserved : goal.loop-instr-preserved
loop-instr-preserved c =
    let size = rw c.new.ensures at c.short_size.ensures.size in
    let end : c.min-at.result ≡ min (c.loop-instr.at + short_size c.loop-instr.at c.in-Some.instr.now) 4294967295 = c.min-at.ensures ∙ ap (λ n. min (c.loop-instr.at + n) 4294967295) size in
    let now : min (short_end c.loop-instr.at (c.in-Some.instr.now ∷ c.in-Some.tail.now)) 4294967295 ≡ min (short_end 0 c.args.instrs.now) 4294967295 = ap (λ l. min (short_end c.loop-instr.at l) 4294967295) (sym c.in-Some.ensures.cases.0) ∙ c.loop-instr.invariant in
    ap (λ n. min (short_end n c.in-Some.tail.now) 4294967295) end ∙ end_still 4294967295 (c.loop-instr.at + short_size c.loop-instr.at c.in-Some.instr.now) c.in-Some.tail.now ∙ now
