use Rattle.std.proofs.Common.{[], ◌∷◌, inr, refl}
use Rattle.std.proofs.lemmas.Bool.{false≢true}
use Rattle.std.proofs.lemmas.Result.{err_from_is_err_and}
use Rattle.je_code.specs.Code.{IsCodeLength}
use Rattle.je_code.proofs.Comes.{or_memory, still_cut, is_length, is_no_length}
use Rattle.je_code.proofs.numbers.code_length_at.Goals as goal

pub returns-in_err-number-clause-number : goal.returns-in_err-number-clause-number
returns-in_err-number-clause-number c =
    let p = err_from_is_err_and c.from_residual.result c.from_residual.ensures.1 in
    rw (p.1, p.2) (or_memory c.in_err-number.ensures.number (λ h. (h.0, still_cut (IsCodeLength h.0 ∷ []) h.1)))

pub returns-then-not-is_code_length-clause-number : goal.returns-then-not-is_code_length-clause-number
returns-then-not-is_code_length-clause-number c =
    inr (c.in_ok-number.number, is_no_length c.in_ok-number.ensures.number (λ h. false≢true (c.if-not-is_code_length.ensures.1 h)))

pub returns-clause-number : goal.returns-clause-number
returns-clause-number c = is_length c.in_ok-number.ensures.number (c.if-not-is_code_length.ensures.0 refl)
