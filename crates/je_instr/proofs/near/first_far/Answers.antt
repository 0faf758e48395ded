use Rattle.std.proofs.Common.{arith}
use Rattle.je_instr.proofs.LayoutLemmas.{end_from, end_many, room}
use Rattle.je_instr.proofs.near.first_far.Goals as goal

pub is_far-requires-clause-at : goal.is_far-requires-clause-at
is_far-requires-clause-at c =
    let on = end_from c.loop-instr.at c.loop-instr.rest.now in
    omega (arith, on, c.loop-instr.invariant.end, c.requires.short)

pub plus-at-requires : goal.plus-at-requires
plus-at-requires c =
    let r = room c.loop-instr.at c.in-Some.instr.now c.in-Some.tail.now c.loop-instr.rest.now _ c.in-Some.ensures.cases.0 c.loop-instr.invariant.end in
    omega (arith, r, c.requires.short, c.short_size.ensures.size)

pub overflow_add-index : goal.overflow_add-index
overflow_add-index c =
    let many = end_many 0 c.args.instrs.now in
    omega (arith, many, c.requires.short, c.loop-instr.invariant.long, c.in-Some.ensures.cases.1)
