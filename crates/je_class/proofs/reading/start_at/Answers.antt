use Rattle.std.proofs.Common.{[], ◌∷◌, inr, arith}
use Rattle.std.proofs.lemmas.Bool.{false≢true}
use Rattle.std.proofs.lemmas.Result.{err_from_is_err_and}
use Rattle.je_class.specs.FileParts.{IsMagic, IsVersion}
use Rattle.je_class.proofs.Comes.{then, stops, u2_comes, u4_comes, u2_cut, u4_cut, u2_fails, u4_fails, first_fails}
use Rattle.je_class.proofs.reading.start_at.Goals as goal

pub returns-in_err-magic : goal.returns-in_err-magic
returns-in_err-magic c =
    let p = err_from_is_err_and c.from_residual.result c.from_residual.ensures.1 in
    rw (p.1, p.2) (inr ((0, 0, 0), stops _ (u4_cut 0 (IsMagic 0 ∷ []) c.in_err-magic.ensures.cut)))

pub returns-then-magic : goal.returns-then-magic
returns-then-magic c =
    let magic = c.in_ok-magic.magic in
    inr ((magic, 0, 0), stops _ (u4_fails c.in_ok-magic.ensures.there (omega arith) (first_fails 0 (IsMagic magic) [] c.if-magic.true)))

pub returns-in_err-minor : goal.returns-in_err-minor
returns-in_err-minor c =
    let p = err_from_is_err_and c.from_residual-in_err-minor.result c.from_residual-in_err-minor.ensures.1 in
    rw (p.1, p.2) (inr ((c.in_ok-magic.magic, 0, 0), then (u4_comes c.in_ok-magic.ensures.there c.in_ok-magic.ensures.end (omega arith) (c.if-magic.false, tt)) (stops _ (u2_cut 0 [] c.in_err-minor.ensures.cut))))

pub returns-in_err-major : goal.returns-in_err-major
returns-in_err-major c =
    let p = err_from_is_err_and c.from_residual-in_err-major.result c.from_residual-in_err-major.ensures.1 in
    rw (p.1, p.2) (inr ((c.in_ok-magic.magic, c.in_ok-minor.minor, 0), then (u4_comes c.in_ok-magic.ensures.there c.in_ok-magic.ensures.end (omega arith) (c.if-magic.false, tt)) (then (u2_comes c.in_ok-minor.ensures.there c.in_ok-minor.ensures.end (omega arith) tt) (u2_cut 0 (IsVersion 0 ∷ []) c.in_err-major.ensures.cut))))

pub returns-then-not-is_version : goal.returns-then-not-is_version
returns-then-not-is_version c =
    let major = c.in_ok-major.major in
    let fails = u2_fails c.in_ok-major.ensures.there (omega arith) (first_fails c.in_ok-minor.at (IsVersion major) [] (λ h. false≢true (c.if-not-is_version.ensures.1 h))) in
    inr ((c.in_ok-magic.magic, c.in_ok-minor.minor, major), then (u4_comes c.in_ok-magic.ensures.there c.in_ok-magic.ensures.end (omega arith) (c.if-magic.false, tt)) (then (u2_comes c.in_ok-minor.ensures.there c.in_ok-minor.ensures.end (omega arith) tt) fails))
