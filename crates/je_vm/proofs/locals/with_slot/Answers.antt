use Rattle.std.proofs.Common.{arith}
use Rattle.je_vm.proofs.LocalLemmas.{grown}
use Rattle.je_vm.proofs.locals.with_slot.Goals as goal

pub loop-all-preserved : goal.loop-all-preserved
loop-all-preserved c =
    grown c.args.locals c.loop-all.all c.args.slot _ _ c.of.ensures
    (omega (arith, c.loop-all-test.true, c.len.ensures))
    c.in_ok-push.ensures.ok c.loop-all.invariant
