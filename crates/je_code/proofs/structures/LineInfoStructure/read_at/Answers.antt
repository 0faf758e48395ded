use Rattle.std.proofs.lemmas.Result.{err_from_is_err_and}
use Rattle.je_code.proofs.Comes.{or_memory, then, stops}
use Rattle.je_code.proofs.structures.LineInfoStructure.read_at.Goals as goal

pub returns-in_err-start_pc : goal.returns-in_err-start_pc
returns-in_err-start_pc c =
    let p = err_from_is_err_and c.from_residual.result c.from_residual.ensures.1 in
    rw (p.1, p.2) (or_memory c.in_err-start_pc.ensures.number (λ h. (record { start_pc = h.0; line_number = 0 }, stops _ h.1)))

pub returns-in_err-line_number : goal.returns-in_err-line_number
returns-in_err-line_number c =
    let p = err_from_is_err_and c.from_residual-in_err-line_number.result c.from_residual-in_err-line_number.ensures.1 in
    rw (p.1, p.2) (or_memory c.in_err-line_number.ensures.number (λ h. (record { start_pc = c.in_ok-start_pc.start_pc; line_number = h.0 }, then c.in_ok-start_pc.ensures.number h.1)))

pub returns : goal.returns
returns c = then c.in_ok-start_pc.ensures.number c.in_ok-line_number.ensures.number
