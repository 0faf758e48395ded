use Rattle.std.proofs.Common.{arith}
use Rattle.je_instr.proofs.LayoutLemmas.{end_from, room}
use Rattle.je_instr.proofs.shortest.put_all.Goals as goal

pub put_instr-requires-clause-at : goal.put_instr-requires-clause-at
put_instr-requires-clause-at c =
    let on = end_from c.loop-instr.at c.loop-instr.rest.now in
    omega (arith, on, c.loop-instr.invariant.end, c.requires.short)

pub put_instr-requires-clause-short : goal.put_instr-requires-clause-short
put_instr-requires-clause-short c =
    let r = room c.loop-instr.at c.in-Some.instr.now c.in-Some.tail.now c.loop-instr.rest.now _ c.in-Some.ensures.cases.0 c.loop-instr.invariant.end in
    omega (arith, r, c.requires.short)

pub plus-at-requires : goal.plus-at-requires
plus-at-requires c =
    let r = room c.loop-instr.at c.in-Some.instr.now c.in-Some.tail.now c.loop-instr.rest.now _ c.in-Some.ensures.cases.0 c.loop-instr.invariant.end in
    omega (arith, r, c.requires.short, c.short_size.ensures.size)
