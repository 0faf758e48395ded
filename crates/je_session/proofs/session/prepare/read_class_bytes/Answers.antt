use Rattle.std.proofs.Common.{Err, ap, ◌∙◌}
use Rattle.je_session.specs.Forms.{class_path}
use Rattle.je_session.proofs.StopLemmas.{stopped_too_long}
use Rattle.je_session.proofs.session.prepare.read_class_bytes.Goals as goal

pub returns-in-Err-TooLong-clause-stopped : goal.returns-in-Err-TooLong-clause-stopped
returns-in-Err-TooLong-clause-stopped g c =
    stopped_too_long c.args.script.now _ c.as_str.result.now c.bad_class.result (c.as_str.ensures.value ∙ c.in_ok-path.ensures ∙ ap class_path c.bytes.ensures.bytes)
    (c.in-Err-TooLong.ensures.too_long (ap Err c.in-Err-TooLong.field-0-is)) c.bad_class.ensures
