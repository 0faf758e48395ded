use Rattle.std.proofs.Common.{[], ◌≤◌, arith, length}
use Rattle.std.proofs.lemmas.Result.{err_from_is_err_and}
use Rattle.je_class.specs.declared.parts.TheConstants.{MAGIC}
use Rattle.je_class.proofs.Comes.{or_memory, then, stops, comes_within}
use Rattle.je_class.proofs.Same.{class_of}
use Rattle.je_class.proofs.reading.parts_at.Goals as goal

pub returns-in_err-minor : goal.returns-in_err-minor
returns-in_err-minor c =
    let p = err_from_is_err_and c.from_residual.result c.from_residual.ensures.1 in
    rw (p.1, p.2) (or_memory c.in_err-minor.ensures (λ h. (h.0.0, class_of h.0.1 h.0.2 [] 0 0 0 [] [] [] [], stops _ h.1)))

pub pool_at-requires-clause-within : goal.pool_at-requires-clause-within
pool_at-requires-clause-within c =
    let within : 0 ≤ length c.args.bytes.now = omega arith in
    comes_within within c.in_ok-minor.ensures

pub returns-in_err-consts : goal.returns-in_err-consts
returns-in_err-consts c =
    let p = err_from_is_err_and c.from_residual-in_err-consts.result c.from_residual-in_err-consts.ensures.1 in
    rw (p.1, p.2) (or_memory c.in_err-consts.ensures (λ h. (MAGIC, class_of c.in_ok-minor.minor c.in_ok-minor.major h.0 0 0 0 [] [] [] [], then c.in_ok-minor.ensures (stops _ h.1))))

pub returns-in_err-access : goal.returns-in_err-access
returns-in_err-access c =
    let p = err_from_is_err_and c.from_residual-in_err-access.result c.from_residual-in_err-access.ensures.1 in
    rw (p.1, p.2) (or_memory c.in_err-access.ensures (λ h. (MAGIC, class_of c.in_ok-minor.minor c.in_ok-minor.major c.in_ok-consts.consts h.0.0 h.0.1 h.0.2 [] [] [] [], then c.in_ok-minor.ensures (then c.in_ok-consts.ensures (stops _ h.1)))))

pub returns-in_err-interfaces : goal.returns-in_err-interfaces
returns-in_err-interfaces c =
    let p = err_from_is_err_and c.from_residual-in_err-interfaces.result c.from_residual-in_err-interfaces.ensures.1 in
    rw (p.1, p.2) (or_memory c.in_err-interfaces.ensures (λ h. (MAGIC, class_of c.in_ok-minor.minor c.in_ok-minor.major c.in_ok-consts.consts c.in_ok-access.access c.in_ok-access.this_class c.in_ok-access.super_class h.0.0 h.0.1 h.0.2 h.0.3, then c.in_ok-minor.ensures (then c.in_ok-consts.ensures (then c.in_ok-access.ensures h.1)))))

pub returns : goal.returns
returns c =
    then c.in_ok-minor.ensures (then c.in_ok-consts.ensures (then c.in_ok-access.ensures c.in_ok-interfaces.ensures))
