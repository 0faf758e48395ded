use Rattle.std.proofs.Common.{[], inr, arith}
use Rattle.std.proofs.lemmas.Result.{err_from_is_err_and}
use Rattle.je_class.proofs.Comes.{or_memory, then, stops, u2_comes, u2_cut}
use Rattle.je_class.proofs.members.member_at.Goals as goal

pub returns-in_err-access : goal.returns-in_err-access
returns-in_err-access c =
    let p = err_from_is_err_and c.from_residual.result c.from_residual.ensures.1 in
    rw (p.1, p.2) (inr (record { access = 0; name = 0; descriptor = 0; attributes = [] }, stops _ (u2_cut 0 [] c.in_err-access.ensures.cut)))

pub returns-in_err-name : goal.returns-in_err-name
returns-in_err-name c =
    let p = err_from_is_err_and c.from_residual-in_err-name.result c.from_residual-in_err-name.ensures.1 in
    rw (p.1, p.2) (or_memory c.in_err-name.ensures (λ h. (record { access = c.in_ok-access.access; name = h.0; descriptor = 0; attributes = [] }, then (u2_comes c.in_ok-access.ensures.there c.in_ok-access.ensures.end (omega arith) tt) (stops _ h.1))))

pub returns-in_err-descriptor : goal.returns-in_err-descriptor
returns-in_err-descriptor c =
    let p = err_from_is_err_and c.from_residual-in_err-descriptor.result c.from_residual-in_err-descriptor.ensures.1 in
    rw (p.1, p.2) (or_memory (rw c.descriptor_of.ensures at c.in_err-descriptor.ensures) (λ h. (record { access = c.in_ok-access.access; name = c.in_ok-name.name; descriptor = h.0; attributes = [] }, then (u2_comes c.in_ok-access.ensures.there c.in_ok-access.ensures.end (omega arith) tt) (then c.in_ok-name.ensures (stops _ h.1)))))

pub returns-in_err-attributes : goal.returns-in_err-attributes
returns-in_err-attributes c =
    let p = err_from_is_err_and c.from_residual-in_err-attributes.result c.from_residual-in_err-attributes.ensures.1 in
    rw (p.1, p.2) (or_memory c.in_err-attributes.ensures (λ h. (record { access = c.in_ok-access.access; name = c.in_ok-name.name; descriptor = c.in_ok-descriptor.descriptor; attributes = h.0 }, then (u2_comes c.in_ok-access.ensures.there c.in_ok-access.ensures.end (omega arith) tt) (then c.in_ok-name.ensures (then (rw c.descriptor_of.ensures at c.in_ok-descriptor.ensures) h.1)))))
