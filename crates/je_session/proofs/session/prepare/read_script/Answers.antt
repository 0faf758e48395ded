use Rattle.std.proofs.Common.{arith}
use Rattle.je_session.proofs.PreparedLemmas.{reads_script, ascii_names}
use Rattle.je_session.proofs.session.prepare.read_script.Goals as goal

pub returns-in-Ok-parse_script-clause-found : goal.returns-in-Ok-parse_script-clause-found
returns-in-Ok-parse_script-clause-found g c =
    reads_script _ _ c.in-Some.path.now c.deref.result.now _ c.in-Some.ensures.one (rw c.deref.ensures.value c.in-Ok.ensures.found) (omega (arith, c.in-Ok.ensures.within, c.deref.ensures.len)) c.in-Ok-parse_script.ensures.found

pub returns-in-Ok-parse_script-clause-names : goal.returns-in-Ok-parse_script-clause-names
returns-in-Ok-parse_script-clause-names g c = ascii_names c.deref.result.now c.in-Ok-parse_script.script c.in-Ok-parse_script.ensures.found
