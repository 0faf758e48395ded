use Rattle.std.proofs.Common.{[], inr, arith}
use Rattle.std.proofs.lemmas.Result.{err_from_is_err_and}
use Rattle.je_class.specs.FileParts.{attribute_parts}
use Rattle.je_class.proofs.Comes.{or_memory, stops, u2_cut}
use Rattle.je_class.proofs.Tables.{table_more, table_stops, table_ends}
use Rattle.je_class.proofs.members.attributes_at.Goals as goal

pub returns-in_err-count : goal.returns-in_err-count
returns-in_err-count c =
    let p = err_from_is_err_and c.from_residual.result c.from_residual.ensures.1 in
    rw (p.1, p.2) (inr ([], stops _ (u2_cut 0 [] c.in_err-count.ensures.cut)))

pub returns-in_err-attribute : goal.returns-in_err-attribute
returns-in_err-attribute c =
    let p = err_from_is_err_and c.from_residual-in_err-attribute.result c.from_residual-in_err-attribute.ensures.1 in
    rw (p.1, p.2) (or_memory c.in_err-attribute.ensures (λ h. table_stops (attribute_parts c.args.consts.now) c.loop.attributes.items h.0 c.loop.invariant c.loop-test.true h.1))

pub loop-preserved : goal.loop-preserved
loop-preserved c =
    rw c.in_ok-push.ensures.items (table_more (attribute_parts c.args.consts.now) c.loop.attributes.items c.in_ok-attribute.attribute c.loop.invariant c.in_ok-attribute.ensures)

pub returns : goal.returns
returns c = table_ends (attribute_parts c.args.consts.now) c.loop.attributes.items c.loop.invariant (omega arith)
