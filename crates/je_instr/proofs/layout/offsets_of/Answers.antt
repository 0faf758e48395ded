use Rattle.std.proofs.Common.{◌≡◌, ◌+◌, ◌∷◌, ◌++◌, [], sym, ap, ◌∙◌, arith, append_assoc}
use Rattle.je_instr.specs.Shortest.{short_size, short_end, short_offsets}
use Rattle.je_instr.proofs.LayoutLemmas.{end_from}
use Rattle.je_instr.proofs.layout.offsets_of.Goals as goal

pub plus-at-requires : goal.plus-at-requires
plus-at-requires c =
    let now : short_end c.loop-instr.at (c.in-Some.instr.now ∷ c.in-Some.tail.now) ≡ short_end 0 c.args.instrs.now = ap (λ l. short_end c.loop-instr.at l) (sym c.in-Some.ensures.cases.0) ∙ c.loop-instr.invariant.end in
    let on = end_from (c.loop-instr.at + short_size c.loop-instr.at c.in-Some.instr.now) c.in-Some.tail.now in
    omega (arith, now, on, c.short_size.ensures.size)

pub loop-instr-preserved : goal.loop-instr-preserved
loop-instr-preserved c =
    let now : short_end c.loop-instr.at (c.in-Some.instr.now ∷ c.in-Some.tail.now) ≡ short_end 0 c.args.instrs.now = ap (λ l. short_end c.loop-instr.at l) (sym c.in-Some.ensures.cases.0) ∙ c.loop-instr.invariant.end in
    let offsets : c.loop-instr.offsets.items ++ short_offsets c.loop-instr.at (c.in-Some.instr.now ∷ c.in-Some.tail.now) ≡ short_offsets 0 c.args.instrs.now = ap (λ l. c.loop-instr.offsets.items ++ short_offsets c.loop-instr.at l) (sym c.in-Some.ensures.cases.0) ∙ c.loop-instr.invariant.all in
    rw (c.plus-at.ensures, c.short_size.ensures.size, c.in_ok-push.ensures.items, c.get.ensures)
    (record { end = now; all = append_assoc c.loop-instr.offsets.items (c.loop-instr.at ∷ []) _ ∙ offsets })
