use Rattle.std.proofs.Common.{Err, Some, None, refl, ap, ◌∙◌}
use Rattle.je_session.specs.Output.{Put, Write}
use Rattle.je_session.specs.Prepared.{output}
use Rattle.je_session.proofs.CauseLemmas.{laws_of, complete_from, refuses_from, no_usage, loud}
use Rattle.je_session.proofs.OutputLemmas.{since_start, run_done, run_failed, run_stopped, done_of_run}
use Rattle.je_session.proofs.PreparedLemmas.{fault_since}
use Rattle.je_session.proofs.session.run.Goals as goal

-- ---- all is done

pub returns-in-Ok-finish-clause-outcome : goal.returns-in-Ok-finish-clause-outcome
returns-in-Ok-finish-clause-outcome g c =
    run_done _ _ _ c.in-Ok.made c.in-Ok.ensures.made (since_start (output c.in-Ok.made) None _ _ _ _ _ _ _ c.prepare.ensures.contents c.prepare.ensures.writes c.in-Ok-finish.ensures.done) refl

pub returns-in-Ok-finish-clause-done : goal.returns-in-Ok-finish-clause-done
returns-in-Ok-finish-clause-done g c = done_of_run _ _ _ _ (returns-in-Ok-finish-clause-outcome g c)

pub returns-in-Ok-finish-clause-refused : goal.returns-in-Ok-finish-clause-refused
returns-in-Ok-finish-clause-refused g c =
    refuses_from (laws_of c.one_class.ensures.same c.one_class.ensures.no_fault) _ _ _ _ (returns-in-Ok-finish-clause-outcome g c)

-- ---- the write failed

pub returns-in-Err-Writing-clause-outcome : goal.returns-in-Err-Writing-clause-outcome
returns-in-Err-Writing-clause-outcome g c =
    let goes = since_start (output c.in-Ok.made) (Some (Write _ _)) _ _ _ _ _ _ _ c.prepare.ensures.contents c.prepare.ensures.writes (c.in-Err-Writing.ensures.writing (ap Err c.in-Err-Writing.field-0-is)) in
    let fault = fault_since _ _ _ c.prepare.ensures.faults (c.in-Err-Writing.ensures.writing_fault (ap Err c.in-Err-Writing.field-0-is)) in
    run_failed _ _ _ _ c.in-Ok.made (Write _ _) c.as_bytes.result.now c.in-Ok.ensures.made goes fault c.tell.ensures.status (c.as_bytes.ensures.value ∙ c.in-Ok.ensures.made.writing_line) c.tell.ensures.put c.tell.ensures.whole

pub returns-in-Err-Writing-clause-done : goal.returns-in-Err-Writing-clause-done
returns-in-Err-Writing-clause-done g c = done_of_run _ _ _ _ (returns-in-Err-Writing-clause-outcome g c)

pub returns-in-Err-Writing-clause-line : goal.returns-in-Err-Writing-clause-line
returns-in-Err-Writing-clause-line g c = no_usage _ _ _ _ (returns-in-Err-Writing-clause-outcome g c)

pub returns-in-Err-Writing-clause-refused : goal.returns-in-Err-Writing-clause-refused
returns-in-Err-Writing-clause-refused g c =
    refuses_from (laws_of c.one_class.ensures.same c.one_class.ensures.no_fault) _ _ _ _ (returns-in-Err-Writing-clause-outcome g c)

pub returns-in-Err-Writing-clause-complete : goal.returns-in-Err-Writing-clause-complete
returns-in-Err-Writing-clause-complete g c =
    complete_from (laws_of c.one_class.ensures.same c.one_class.ensures.no_fault) _ _ _ _ (returns-in-Err-Writing-clause-outcome g c)

pub returns-in-Err-Writing-clause-unwritten : goal.returns-in-Err-Writing-clause-unwritten
returns-in-Err-Writing-clause-unwritten g c = λ quiet. absurd (loud _ c.tell.ensures.status quiet)

pub returns-in-Err-Writing-clause-unchanged : goal.returns-in-Err-Writing-clause-unchanged
returns-in-Err-Writing-clause-unchanged g c = λ quiet. absurd (loud _ c.tell.ensures.status quiet)

pub returns-in-Err-Writing-clause-silent : goal.returns-in-Err-Writing-clause-silent
returns-in-Err-Writing-clause-silent g c = λ quiet. absurd (loud _ c.tell.ensures.status quiet)

-- ---- a put failed

pub returns-in-Ok-clause-outcome : goal.returns-in-Ok-clause-outcome
returns-in-Ok-clause-outcome g c =
    let failed = c.in-Err-Output.ensures.output (ap Err c.in-Err-Output.field-0-is) in
    let goes = since_start (output c.in-Ok.made) (Some (Put failed.0)) _ _ _ _ _ _ _ c.prepare.ensures.contents c.prepare.ensures.writes failed.1 in
    run_failed _ _ _ _ c.in-Ok.made (Put failed.0) _ c.in-Ok.ensures.made goes (c.in-Err-Output.ensures.output_fault (ap Err c.in-Err-Output.field-0-is)) c.tell-in-Err-Output.ensures.status refl c.tell-in-Err-Output.ensures.put c.tell-in-Err-Output.ensures.whole

pub returns-in-Ok-clause-done : goal.returns-in-Ok-clause-done
returns-in-Ok-clause-done g c = done_of_run _ _ _ _ (returns-in-Ok-clause-outcome g c)

pub returns-in-Ok-clause-line : goal.returns-in-Ok-clause-line
returns-in-Ok-clause-line g c = no_usage _ _ _ _ (returns-in-Ok-clause-outcome g c)

pub returns-in-Ok-clause-refused : goal.returns-in-Ok-clause-refused
returns-in-Ok-clause-refused g c =
    refuses_from (laws_of c.one_class.ensures.same c.one_class.ensures.no_fault) _ _ _ _ (returns-in-Ok-clause-outcome g c)

pub returns-in-Ok-clause-complete : goal.returns-in-Ok-clause-complete
returns-in-Ok-clause-complete g c =
    complete_from (laws_of c.one_class.ensures.same c.one_class.ensures.no_fault) _ _ _ _ (returns-in-Ok-clause-outcome g c)

pub returns-in-Ok-clause-unwritten : goal.returns-in-Ok-clause-unwritten
returns-in-Ok-clause-unwritten g c = λ quiet. absurd (loud _ c.tell-in-Err-Output.ensures.status quiet)

pub returns-in-Ok-clause-unchanged : goal.returns-in-Ok-clause-unchanged
returns-in-Ok-clause-unchanged g c = λ quiet. absurd (loud _ c.tell-in-Err-Output.ensures.status quiet)

pub returns-in-Ok-clause-silent : goal.returns-in-Ok-clause-silent
returns-in-Ok-clause-silent g c = λ quiet. absurd (loud _ c.tell-in-Err-Output.ensures.status quiet)

-- ---- the run stops before its output

pub returns-clause-outcome : goal.returns-clause-outcome
returns-clause-outcome g c =
    run_stopped _ _ _ _ c.in-Err.stop _ c.in-Err.ensures.stopped (rw (c.prepare.ensures.contents, c.prepare.ensures.writes) refl) c.tell-in-Err.ensures.status c.bytes.ensures c.tell-in-Err.ensures.put c.tell-in-Err.ensures.whole

pub returns-clause-done : goal.returns-clause-done
returns-clause-done g c = done_of_run _ _ _ _ (returns-clause-outcome g c)

pub returns-clause-line : goal.returns-clause-line
returns-clause-line g c = no_usage _ _ _ _ (returns-clause-outcome g c)

pub returns-clause-refused : goal.returns-clause-refused
returns-clause-refused g c =
    refuses_from (laws_of c.one_class.ensures.same c.one_class.ensures.no_fault) _ _ _ _ (returns-clause-outcome g c)

pub returns-clause-complete : goal.returns-clause-complete
returns-clause-complete g c =
    complete_from (laws_of c.one_class.ensures.same c.one_class.ensures.no_fault) _ _ _ _ (returns-clause-outcome g c)
