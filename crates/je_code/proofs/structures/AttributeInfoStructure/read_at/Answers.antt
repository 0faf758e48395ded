use Rattle.std.proofs.Common.{[]}
use Rattle.std.proofs.lemmas.Result.{err_from_is_err_and}
use Rattle.je_code.proofs.Comes.{or_memory, then, stops, length_cut, run_behind}
use Rattle.je_code.proofs.structures.AttributeInfoStructure.read_at.Goals as goal

pub returns-in_err-name : goal.returns-in_err-name
returns-in_err-name c =
    let p = err_from_is_err_and c.from_residual.result c.from_residual.ensures.1 in
    rw (p.1, p.2) (or_memory c.in_err-name.ensures.number (λ h. (record { name = h.0; bytes = [] }, stops _ h.1)))

pub returns-in_err-len : goal.returns-in_err-len
returns-in_err-len c =
    let p = err_from_is_err_and c.from_residual-in_err-len.result c.from_residual-in_err-len.ensures.1 in
    rw (p.1, p.2) (or_memory c.in_err-len.ensures.number (λ h. let cut = length_cut (λ n. []) h.1 in (record { name = c.in_ok-name.name; bytes = cut.0 }, then c.in_ok-name.ensures.number cut.1)))

pub returns-in_err-bytes : goal.returns-in_err-bytes
returns-in_err-bytes c =
    let p = err_from_is_err_and c.from_residual-in_err-bytes.result c.from_residual-in_err-bytes.ensures.1 in
    rw (p.1, p.2) (or_memory c.in_err-bytes.ensures (λ h. (record { name = c.in_ok-name.name; bytes = h.0 }, then c.in_ok-name.ensures.number (run_behind (λ n. []) c.in_ok-len.ensures.number h.1 h.2))))

pub returns : goal.returns
returns c = then c.in_ok-name.ensures.number (run_behind (λ n. []) c.in_ok-len.ensures.number c.in_ok-bytes.ensures.0 c.in_ok-bytes.ensures.1)
