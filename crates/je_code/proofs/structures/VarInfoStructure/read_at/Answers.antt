use Rattle.std.proofs.lemmas.Result.{err_from_is_err_and}
use Rattle.je_code.proofs.Comes.{or_memory, then, stops}
use Rattle.je_code.proofs.structures.VarInfoStructure.read_at.Goals as goal

pub returns-in_err-start_pc : goal.returns-in_err-start_pc
returns-in_err-start_pc c =
    let p = err_from_is_err_and c.from_residual.result c.from_residual.ensures.1 in
    rw (p.1, p.2) (or_memory c.in_err-start_pc.ensures.number (λ h. (record { start_pc = h.0; length = 0; name_index = 0; signature_index = 0; index = 0 }, stops _ h.1)))

pub returns-in_err-length : goal.returns-in_err-length
returns-in_err-length c =
    let p = err_from_is_err_and c.from_residual-in_err-length.result c.from_residual-in_err-length.ensures.1 in
    rw (p.1, p.2) (or_memory c.in_err-length.ensures.number (λ h. (record { start_pc = c.in_ok-start_pc.start_pc; length = h.0; name_index = 0; signature_index = 0; index = 0 }, then c.in_ok-start_pc.ensures.number (stops _ h.1))))

pub returns-in_err-name_index : goal.returns-in_err-name_index
returns-in_err-name_index c =
    let p = err_from_is_err_and c.from_residual-in_err-name_index.result c.from_residual-in_err-name_index.ensures.1 in
    rw (p.1, p.2) (or_memory c.in_err-name_index.ensures.number (λ h. (record { start_pc = c.in_ok-start_pc.start_pc; length = c.in_ok-length.length; name_index = h.0; signature_index = 0; index = 0 }, then c.in_ok-start_pc.ensures.number (then c.in_ok-length.ensures.number (stops _ h.1)))))

pub returns-in_err-signature_index : goal.returns-in_err-signature_index
returns-in_err-signature_index c =
    let p = err_from_is_err_and c.from_residual-in_err-signature_index.result c.from_residual-in_err-signature_index.ensures.1 in
    rw (p.1, p.2) (or_memory c.in_err-signature_index.ensures.number (λ h. (record { start_pc = c.in_ok-start_pc.start_pc; length = c.in_ok-length.length; name_index = c.in_ok-name_index.name_index; signature_index = h.0; index = 0 }, then c.in_ok-start_pc.ensures.number (then c.in_ok-length.ensures.number (then c.in_ok-name_index.ensures.number (stops _ h.1))))))

pub returns-in_err-index : goal.returns-in_err-index
returns-in_err-index c =
    let p = err_from_is_err_and c.from_residual-in_err-index.result c.from_residual-in_err-index.ensures.1 in
    rw (p.1, p.2) (or_memory c.in_err-index.ensures.number (λ h. (record { start_pc = c.in_ok-start_pc.start_pc; length = c.in_ok-length.length; name_index = c.in_ok-name_index.name_index; signature_index = c.in_ok-signature_index.signature_index; index = h.0 }, then c.in_ok-start_pc.ensures.number (then c.in_ok-length.ensures.number (then c.in_ok-name_index.ensures.number (then c.in_ok-signature_index.ensures.number h.1))))))

pub returns : goal.returns
returns c = then c.in_ok-start_pc.ensures.number (then c.in_ok-length.ensures.number (then c.in_ok-name_index.ensures.number (then c.in_ok-signature_index.ensures.number c.in_ok-index.ensures.number)))
