use Rattle.std.proofs.Common.{[], arith}
use Rattle.std.proofs.lemmas.Result.{err_from_is_err_and}
use Rattle.je_code.proofs.Comes.{or_memory, stops, any_cut}
use Rattle.je_code.proofs.TableLemmas.{table_more, table_stops, table_ends}
use Rattle.je_code.proofs.structures.table_at.Goals as goal

pub returns-in_err-count : goal.returns-in_err-count
returns-in_err-count g c =
    let p = err_from_is_err_and c.from_residual.result c.from_residual.ensures.1 in
    rw (p.1, p.2) (or_memory c.in_err-count.ensures.number (λ h. ([], stops _ (any_cut 0 h.1))))

pub returns-in_err-structure : goal.returns-in_err-structure
returns-in_err-structure g c =
    let p = err_from_is_err_and c.from_residual-in_err-structure.result c.from_residual-in_err-structure.ensures.1 in
    rw (p.1, p.2) (or_memory c.in_err-structure.ensures (λ h. table_stops g.S.Structure.parts c.loop.structures.items h.0 c.loop.invariant c.loop-test.true h.1))

pub loop-preserved : goal.loop-preserved
loop-preserved g c =
    rw c.in_ok-push.ensures.items (table_more g.S.Structure.parts c.loop.structures.items c.in_ok-structure.structure c.loop.invariant c.in_ok-structure.ensures)

pub returns : goal.returns
returns g c = table_ends g.S.Structure.parts c.loop.structures.items c.loop.invariant (omega arith)
