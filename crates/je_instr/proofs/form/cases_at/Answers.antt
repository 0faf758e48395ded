use Rattle.std.proofs.Common.{arith}
use Rattle.je_instr.proofs.FormLemmas.{cases_step}
use Rattle.je_instr.proofs.form.cases_at.Goals as goal

pub loop-preserved : goal.loop-preserved
loop-preserved c =
    let i = c.loop.invariant in
    rw (c.in_ok-push.ensures.items, c.case_at.ensures) (record { next_is = omega arith; all = cases_step c.args.code.now c.args.at c.loop.next c.args.count c.loop.counter c.loop.cases.items _ c.loop-test.true i.all })
