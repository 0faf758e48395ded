use Rattle.std.proofs.Common.{arith, refl}
use Rattle.je_flow.proofs.SlotLemmas.{grown}
use Rattle.je_flow.proofs.locals.with_room.Goals as goal

pub loop-all-preserved : goal.loop-all-preserved
loop-all-preserved c =
    grown c.args.locals c.loop-all.all _ c.args.slot _ refl
    (omega (arith, c.loop-all-test.true, c.len.ensures))
    c.in_ok-push.ensures.ok c.loop-all.invariant
