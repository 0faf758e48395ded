use Rattle.std.proofs.Common.{[], inr, arith}
use Rattle.std.proofs.lemmas.Result.{err_from_is_err_and}
use Rattle.je_class.proofs.Comes.{or_memory, then, stops, u2_comes, u2_cut}
use Rattle.je_class.proofs.reading.own_at.Goals as goal

pub returns-in_err-access : goal.returns-in_err-access
returns-in_err-access c =
    let p = err_from_is_err_and c.from_residual.result c.from_residual.ensures.1 in
    rw (p.1, p.2) (inr ((0, 0, 0), stops _ (u2_cut 0 [] c.in_err-access.ensures.cut)))

pub returns-in_err-this_class : goal.returns-in_err-this_class
returns-in_err-this_class c =
    let p = err_from_is_err_and c.from_residual-in_err-this_class.result c.from_residual-in_err-this_class.ensures.1 in
    rw (p.1, p.2) (or_memory c.in_err-this_class.ensures (λ h. ((c.in_ok-access.access, h.0, 0), then (u2_comes c.in_ok-access.ensures.there c.in_ok-access.ensures.end (omega arith) tt) (stops _ h.1))))

pub returns-in_err-super_class : goal.returns-in_err-super_class
returns-in_err-super_class c =
    let p = err_from_is_err_and c.from_residual-in_err-super_class.result c.from_residual-in_err-super_class.ensures.1 in
    rw (p.1, p.2) (or_memory c.in_err-super_class.ensures (λ h. ((c.in_ok-access.access, c.in_ok-this_class.this_class, h.0), then (u2_comes c.in_ok-access.ensures.there c.in_ok-access.ensures.end (omega arith) tt) (then c.in_ok-this_class.ensures h.1))))
