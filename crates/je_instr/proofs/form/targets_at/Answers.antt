use Rattle.std.proofs.Common.{arith}
use Rattle.je_instr.proofs.FormLemmas.{targets_step}
use Rattle.je_instr.proofs.form.targets_at.Goals as goal

pub loop-preserved : goal.loop-preserved
loop-preserved c =
    let i = c.loop.invariant in
    rw (c.in_ok-push.ensures.items, c.far.ensures) (record { next_is = omega arith; all = targets_step c.args.code.now c.args.at c.loop.next c.args.count c.loop.counter c.loop.targets.items _ c.loop-test.true i.all })
