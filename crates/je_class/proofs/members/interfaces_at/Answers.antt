use Rattle.std.proofs.Common.{[], inr, arith}
use Rattle.std.proofs.lemmas.Result.{err_from_is_err_and}
use Rattle.je_class.specs.FileParts.{interface_parts}
use Rattle.je_class.proofs.Comes.{or_memory, stops, u2_cut}
use Rattle.je_class.proofs.Tables.{table_more, table_stops, table_ends}
use Rattle.je_class.proofs.members.interfaces_at.Goals as goal

pub returns-in_err-count : goal.returns-in_err-count
returns-in_err-count c =
    let p = err_from_is_err_and c.from_residual.result c.from_residual.ensures.1 in
    rw (p.1, p.2) (inr ([], stops _ (u2_cut 0 [] c.in_err-count.ensures.cut)))

pub returns-in_err-index : goal.returns-in_err-index
returns-in_err-index c =
    let p = err_from_is_err_and c.from_residual-in_err-index.result c.from_residual-in_err-index.ensures.1 in
    rw (p.1, p.2) (or_memory c.in_err-index.ensures (λ h. table_stops (interface_parts c.args.consts.now) c.loop.interfaces.items h.0 c.loop.invariant c.loop-test.true h.1))

pub loop-preserved : goal.loop-preserved
loop-preserved c =
    rw c.in_ok-push.ensures.items (table_more (interface_parts c.args.consts.now) c.loop.interfaces.items c.in_ok-index.index c.loop.invariant c.in_ok-index.ensures)

pub returns : goal.returns
returns c = table_ends (interface_parts c.args.consts.now) c.loop.interfaces.items c.loop.invariant (omega arith)
