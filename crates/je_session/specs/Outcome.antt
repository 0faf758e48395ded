-- What one run came to. All that is promised of a run is said of its one outcome.
use Rattle.std.specs.Prelude.{◌≡◌, ℕ, List, [], ◌∷◌, Option, Some, None, IfSome}
use Rattle.std.specs.List.{AllZip}
use Rattle.std.specs.Option.{option_map}
use Rattle.std.specs.FinMap.{insert}
use Rattle.je_base.specs.Files.{Contents}
use Rattle.je_session.specs.declared.plan.Script.{Script}
use Rattle.je_session.specs.declared.status.Status.{Status}
use Rattle.je_session.specs.declared.status.Status.TheVariants as status
use Rattle.je_session.specs.Cause.{Cause, Explains, status_of, line_of}
use Rattle.je_session.specs.ClassEdit.{ClassEdit, IsEditOf}
use Rattle.je_session.specs.Forms.{IsLine, ReadsScript, out_path}
use Rattle.je_session.specs.Moment.{Moment, FilesFault, OutFault, ErrFault}
use Rattle.je_session.specs.Output.{Step, Put, Write, Held, Taken, held_of, told_to, put, PutFails}
use Rattle.je_session.specs.Output.{Goes}
use Rattle.je_session.specs.ReportText.{failed_line, output_of}

pub data Outcome : Type 0 where
  -- the run stopped before its output
  Stopped : (cause : Cause) → Outcome
  -- it came to the output of these edits, in order, and did it up to a step that failed, or all of
  -- it
  Came : (edits : List ClassEdit) → (failed : Option Step) → Outcome

-- ---- why

-- the classes that a script plans, in the order of first mention: a script is the plan of one class
-- so far
abbrev pub classes_of : Script → List Script
classes_of script = script ∷ []

-- The words name a script, and the edits are those of its classes. Where the files tell what they
-- hold, script and classes are what they held.
pub record AreEdits (words : List (List ℕ)) (files : Option Contents) (edits : List ClassEdit) :
    Type 0 where
  pub line : (path : List ℕ) × IsLine words path
  pub script : Script
  pub read : IfSome files (λ before. ReadsScript words before script)
  pub each : AllZip (IsEditOf files) (classes_of script) edits

-- a step fails only with a fault on record
abbrev pub HasFailed : Moment → Moment → Option Step → Type 0
HasFailed before after None = Unit {0}
HasFailed before after (Some (Put piece)) = OutFault before after
HasFailed before after (Some (Write path bytes)) = FilesFault before after

-- the outcome is what the words, the files as they were told before, and the faults show
abbrev pub Happens : List (List ℕ) → Moment → Moment → Outcome → Type 0
Happens words before after (Stopped cause) =
    Explains words before.files.contents (FilesFault before after) cause
Happens words before after (Came edits failed) =
    AreEdits words before.files.contents edits × HasFailed before after failed

-- ---- what is seen of it

abbrev pub answer_of : Outcome → Status
answer_of (Stopped cause) = status_of cause
answer_of (Came edits None) = status.Done
answer_of (Came edits (Some step)) = status.Outside

-- the line on standard error, if there is one
abbrev pub told_of : Outcome → Option (List ℕ)
told_of (Stopped cause) = Some (line_of cause)
told_of (Came edits None) = None
told_of (Came edits (Some step)) = Some (failed_line step)

-- What was put on standard output and written: nothing; or the output of the edits, step by step,
-- up to the step that failed. So each class before that step stands with all that is said of its
-- edit.
abbrev pub HasOutput : Outcome → Held → Held → Type 0
HasOutput (Stopped cause) old new = new ≡ old
HasOutput (Came edits failed) old new = Goes (output_of edits) failed old new

-- standard error takes the line in one put, all of it where no fault of it is on record
abbrev pub IsTold : Option (List ℕ) → Type 0 → Taken → Taken → Type 0
IsTold None err_fault old new = new ≡ old
IsTold (Some line) err_fault old new =
    PutFails line old new × ((err_fault → ⊥) → new ≡ put line old)

-- ---- a run

-- A run from one moment to another: what happened, what it answers, what it put and wrote, and what
-- it told on standard error are those of one outcome.
pub record IsRun (words : List (List ℕ)) (before after : Moment) (answer : Status) : Type 0 where
  pub outcome : Outcome
  pub happens : Happens words before after outcome
  pub answers : answer ≡ answer_of outcome
  pub output : HasOutput outcome (held_of before) (held_of after)
  pub tells : IsTold (told_of outcome) (ErrFault before after) (told_to before) (told_to after)

-- ---- of a run that is done

-- the files with the bytes of each class at its place
abbrev pub with_written : List ClassEdit → Contents → Contents
with_written [] files = files
with_written (e ∷ edits) files = with_written edits (insert files (out_path e.name) e.bytes)

-- The files are as before but for the bytes of each edited class at its place.
pub record IsDone (words : List (List ℕ)) (before after : Option Contents) : Type 0 where
  pub edits : List ClassEdit
  pub are_edits : AreEdits words before edits
  pub written : after ≡ option_map (with_written edits) before
