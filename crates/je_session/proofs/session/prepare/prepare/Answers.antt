use Rattle.std.proofs.lemmas.Result.{err_from_is_err_and}
use Rattle.je_session.specs.Cause.{NoMemory}
use Rattle.je_session.proofs.PreparedLemmas.{class_form, prepared, if_ok_both, if_err_then, if_err_all}
use Rattle.je_session.proofs.StopLemmas.{stopped_at_bytes, stopped_at_method}
use Rattle.je_session.proofs.session.prepare.prepare.Goals as goal

pub returns-in_err-class-clause-stopped : goal.returns-in_err-class-clause-stopped
returns-in_err-class-clause-stopped g c =
    let p = err_from_is_err_and c.from_residual-in_err-class.result c.from_residual-in_err-class.ensures.1 in
    rw (p.1, p.2) (stopped_at_bytes _ _ c.in_ok-script.script c.in_ok-bytes.bytes _ c.in_ok-script.ensures.found (rw (← c.read_script.ensures.contents) c.in_ok-bytes.ensures.found) c.in_err-class.ensures.stopped)

pub returns-in_err-matched-clause-stopped : goal.returns-in_err-matched-clause-stopped
returns-in_err-matched-clause-stopped g c =
    let p = err_from_is_err_and c.from_residual-in_err-matched.result c.from_residual-in_err-matched.ensures.1 in
    rw (p.1, p.2) (stopped_at_bytes _ _ c.in_ok-script.script c.in_ok-bytes.bytes _ c.in_ok-script.ensures.found (rw (← c.read_script.ensures.contents) c.in_ok-bytes.ensures.found)
    (stopped_at_method c.in_ok-script.script c.in_ok-bytes.bytes c.in_ok-class.class _ c.in_ok-class.ensures.found c.in_err-matched.ensures.stopped))

pub returns-in_err-matched-clause-no_line : goal.returns-in_err-matched-clause-no_line
returns-in_err-matched-clause-no_line g c =
    let p = err_from_is_err_and c.from_residual-in_err-matched.result c.from_residual-in_err-matched.ensures.1 in
    rw (p.1, p.2) (λ none. absurd (none c.in_ok-script.ensures.line.0 c.in_ok-script.ensures.line.1))

pub returns-clause-made : goal.returns-clause-made
returns-clause-made g c =
    let form = class_form c.in_ok-script.script c.in_ok-bytes.bytes c.in_ok-class.class c.in_ok-class.ensures.found c.in_ok-matched.ensures.form in
    if_ok_both c.make.result c.make.ensures.bytes c.make.ensures.lines (λ made spelled lines.
    prepared _ _ c.in_ok-bytes.bytes c.in_ok-script.script c.in_ok-class.class _ c.in_ok-matched.matched made c.in_ok-script.ensures.line c.in_ok-script.ensures.found (rw (← c.read_script.ensures.contents) c.in_ok-bytes.ensures.found) form c.in_ok-matched.ensures.edited spelled lines)

pub returns-clause-stopped : goal.returns-clause-stopped
returns-clause-stopped g c = if_err_then c.make.result c.make.ensures.memory (λ stop tells. (NoMemory, tt, tells))

pub returns-clause-no_line : goal.returns-clause-no_line
returns-clause-no_line g c = if_err_all c.make.result (λ stop none. absurd (none c.in_ok-script.ensures.line.0 c.in_ok-script.ensures.line.1))
