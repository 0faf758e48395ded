use Rattle.std.proofs.lemmas.Result.{err_from_is_err_and}
use Rattle.je_session.specs.Script.{script_tokens}
use Rattle.je_session.proofs.ScriptLemmas.{is_found, is_only}
use Rattle.je_session.proofs.script.parse.parse_script.Goals as goal

pub returns-in_err-tokens-clause-only : goal.returns-in_err-tokens-clause-only
returns-in_err-tokens-clause-only c =
    let p = err_from_is_err_and c.from_residual.result c.from_residual.ensures.1 in
    rw (p.1, p.2) (λ script form. c.in_err-tokens.ensures.only (script_tokens script) form.tokens)

pub returns-clause-found : goal.returns-clause-found
returns-clause-found c =
    is_found c.args.text.now c.in_ok-tokens.tokens.items c.script.result c.in_ok-tokens.ensures.found (rw c.deref.ensures.value at c.script.ensures)

pub returns-clause-only : goal.returns-clause-only
returns-clause-only c =
    is_only c.args.text.now c.in_ok-tokens.tokens.items c.script.result c.in_ok-tokens.ensures.only (rw c.deref.ensures.value at c.script.ensures)
