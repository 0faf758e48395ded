use Rattle.std.proofs.Common.{[], inr, arith}
use Rattle.std.proofs.lemmas.Result.{err_from_is_err_and}
use Rattle.je_class.specs.Reading.{parts_of_kind}
use Rattle.je_class.proofs.Comes.{or_memory, stops, u2_cut}
use Rattle.je_class.proofs.Tables.{table_more, table_stops, table_ends}
use Rattle.je_class.proofs.members.members_at.Goals as goal

pub returns-in_err-count : goal.returns-in_err-count
returns-in_err-count c =
    let p = err_from_is_err_and c.from_residual.result c.from_residual.ensures.1 in
    rw (p.1, p.2) (inr ([], stops _ (u2_cut 0 [] c.in_err-count.ensures.cut)))

pub returns-in_err-member : goal.returns-in_err-member
returns-in_err-member c =
    let p = err_from_is_err_and c.from_residual-in_err-member.result c.from_residual-in_err-member.ensures.1 in
    rw (p.1, p.2) (or_memory c.in_err-member.ensures (λ h. table_stops (parts_of_kind c.args.consts.now c.args.kind) c.loop.members.items h.0 c.loop.invariant c.loop-test.true h.1))

pub loop-preserved : goal.loop-preserved
loop-preserved c =
    rw c.in_ok-push.ensures.items (table_more (parts_of_kind c.args.consts.now c.args.kind) c.loop.members.items c.in_ok-member.member c.loop.invariant c.in_ok-member.ensures)

pub returns : goal.returns
returns c = table_ends (parts_of_kind c.args.consts.now c.args.kind) c.loop.members.items c.loop.invariant (omega arith)
