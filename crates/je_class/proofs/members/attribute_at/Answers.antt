use Rattle.std.proofs.Common.{[], inr, arith}
use Rattle.std.proofs.lemmas.Result.{err_from_is_err_and}
use Rattle.je_class.proofs.Comes.{or_memory, then, stops, u4_cut}
use Rattle.je_class.proofs.Tables.{attribute_cut}
use Rattle.je_class.proofs.members.attribute_at.Goals as goal

pub returns-in_err-name : goal.returns-in_err-name
returns-in_err-name c =
    let p = err_from_is_err_and c.from_residual.result c.from_residual.ensures.1 in
    rw (p.1, p.2) (or_memory c.in_err-name.ensures (λ h. (record { name = h.0; bytes = [] }, stops _ h.1)))

pub returns-in_err-len : goal.returns-in_err-len
returns-in_err-len c =
    let p = err_from_is_err_and c.from_residual-in_err-len.result c.from_residual-in_err-len.ensures.1 in
    rw (p.1, p.2) (inr (record { name = c.in_ok-name.name; bytes = [] }, then c.in_ok-name.ensures (stops _ (u4_cut 0 [] c.in_err-len.ensures.cut))))

pub returns-in_err-end : goal.returns-in_err-end
returns-in_err-end c =
    let p = err_from_is_err_and c.from_residual-in_err-end.result c.from_residual-in_err-end.ensures.1 in
    rw (p.1, p.2) (inr (attribute_cut c.in_ok-name.ensures c.in_ok-len.ensures.there c.in_ok-len.ensures.end (omega arith) c.in_err-end.ensures.cut))
