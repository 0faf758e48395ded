use Rattle.std.proofs.lemmas.Result.{err_from_is_err_and}
use Rattle.je_code.proofs.Comes.{or_memory, then, stops}
use Rattle.je_code.proofs.structures.RawHandlerStructure.read_at.Goals as goal

pub returns-in_err-start : goal.returns-in_err-start
returns-in_err-start c =
    let p = err_from_is_err_and c.from_residual.result c.from_residual.ensures.1 in
    rw (p.1, p.2) (or_memory c.in_err-start.ensures.number (λ h. (record { start = h.0; end = 0; target = 0; catch_const = 0 }, stops _ h.1)))

pub returns-in_err-end : goal.returns-in_err-end
returns-in_err-end c =
    let p = err_from_is_err_and c.from_residual-in_err-end.result c.from_residual-in_err-end.ensures.1 in
    rw (p.1, p.2) (or_memory c.in_err-end.ensures.number (λ h. (record { start = c.in_ok-start.start; end = h.0; target = 0; catch_const = 0 }, then c.in_ok-start.ensures.number (stops _ h.1))))

pub returns-in_err-target : goal.returns-in_err-target
returns-in_err-target c =
    let p = err_from_is_err_and c.from_residual-in_err-target.result c.from_residual-in_err-target.ensures.1 in
    rw (p.1, p.2) (or_memory c.in_err-target.ensures.number (λ h. (record { start = c.in_ok-start.start; end = c.in_ok-end.end; target = h.0; catch_const = 0 }, then c.in_ok-start.ensures.number (then c.in_ok-end.ensures.number (stops _ h.1)))))

pub returns-in_err-catch_const : goal.returns-in_err-catch_const
returns-in_err-catch_const c =
    let p = err_from_is_err_and c.from_residual-in_err-catch_const.result c.from_residual-in_err-catch_const.ensures.1 in
    rw (p.1, p.2) (or_memory c.in_err-catch_const.ensures.number (λ h. (record { start = c.in_ok-start.start; end = c.in_ok-end.end; target = c.in_ok-target.target; catch_const = h.0 }, then c.in_ok-start.ensures.number (then c.in_ok-end.ensures.number (then c.in_ok-target.ensures.number h.1)))))

pub returns : goal.returns
returns c = then c.in_ok-start.ensures.number (then c.in_ok-end.ensures.number (then c.in_ok-target.ensures.number c.in_ok-catch_const.ensures.number))
