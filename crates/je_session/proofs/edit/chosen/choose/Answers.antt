use Rattle.std.proofs.Common.{arith, sym, subst}
use Rattle.std.proofs.lemmas.Result.{err_from_is_err_and}
use Rattle.je_instr.specs.Resolves.{Resolves}
use Rattle.je_session.specs.Kept.{IsSoFar}
use Rattle.je_session.proofs.ChosenLemmas.{AreChosen-more, all_at}
use Rattle.je_session.proofs.edit.chosen.choose.Goals as goal

pub returns-in_err-choose_one-clause-not_yet : goal.returns-in_err-choose_one-clause-not_yet
returns-in_err-choose_one-clause-not_yet c =
    let p = err_from_is_err_and c.from_residual.result c.from_residual.ensures.1 in
    let instr = c.instr-item.result in
    rw p.1 (λ is so_far.
    c.in_err-choose_one.ensures.not_yet
    (subst (IsSoFar c.args.consts.now) (sym c.instr-item.is) (all_at (IsSoFar c.args.consts.now) c.args.instrs.now c.loop-instr.instr-index instr so_far (omega arith))))

pub loop-instr-preserved : goal.loop-instr-preserved
loop-instr-preserved c =
    let found = c.in_ok-choose_one.ensures.chosen in
    let instr = c.instr-item.result in
    rw c.in_ok-push.ensures.items
    (AreChosen-more c.args.consts.now c.args.rules.now c.args.instrs.now c.loop-instr.instr-index instr c.loop-instr.chosen.items c.in_ok-choose_one.field-0
    c.loop-instr.invariant (omega arith) found.0 (subst (λ i. Resolves c.args.consts.now i found.0) c.instr-item.is found.1) (subst (IsSoFar c.args.consts.now) c.instr-item.is c.in_ok-choose_one.ensures.so_far) found.2)
