-- The output of a run, and what it tells.
use Rattle.std.proofs.Common.{inl, inr, ◌≡◌, ℕ, List, [], ◌∷◌, ◌++◌, Option, Some, None, refl, ap, subst, ◌∙◌}
use Rattle.std.specs.List.{flat_map}
use Rattle.std.specs.Option.{option_map}
use Rattle.std.specs.FinMap.{insert}
use Rattle.je_base.specs.Files.{Contents}
use Rattle.je_session.specs.declared.session.made.Made.{Made}
use Rattle.je_session.specs.declared.session.report.Stop.{Stop}
use Rattle.je_session.specs.declared.status.Status.{Status}
use Rattle.je_session.specs.declared.status.Status.TheVariants as status
use Rattle.je_session.specs.Cause.{NoLine, Refuses, ReadingFailed, NoMemory, line_bytes, Stopped}
use Rattle.je_session.specs.ClassEdit.{ClassEdit}
use Rattle.je_session.specs.Forms.{out_path}
use Rattle.je_session.specs.Moment.{Moment, FilesFault, ErrFault}
use Rattle.je_session.specs.Output.{Step, Put, Held, held, held_of, told_to, put, PutFails, done, Goes}
use Rattle.je_session.specs.ReportText.{edited_lines, put_some, writing, output_of, failed_line}
use Rattle.je_session.specs.Outcome.{Outcome, Stopped as StoppedBefore, Came, HasFailed, Happens, HasOutput, IsRun, IsDone, with_written, answer_of}
use Rattle.je_session.specs.Prepared.{output, IsPrepared}

-- ---- all steps are done

all_done : List Step → Held → Held
all_done [] old = old
all_done (step ∷ steps) old = all_done steps (done step old)

goes_all : (steps : List Step) (old new : Held) → Goes steps None old new → new ≡ all_done steps old
unfolding all_done
goes_all [] old new goes = goes
goes_all (step ∷ steps) old new (inl (none, fails)) = absurd cc
goes_all (step ∷ steps) old new (inr goes) = goes_all steps (done step old) new goes

option_map-twice : {A B C : Type 0} (f : B → C) (g : A → B) (o : Option A) → option_map f (option_map g o) ≡ option_map (λ x. f (g x)) o
option_map-twice f g None = refl
option_map-twice f g (Some x) = refl

option_map-same : {A : Type 0} (o : Option A) → o ≡ option_map (λ x. x) o
option_map-same None = refl
option_map-same (Some x) = refl

after_writing : (edits : List ClassEdit) (old : Held) → (all_done (flat_map writing edits) old).contents ≡ option_map (with_written edits) old.contents
unfolding all_done
after_writing [] old = option_map-same old.contents
after_writing (e ∷ edits) old =
    after_writing edits (all_done (writing e) old)
    ∙ option_map-twice (with_written edits) (λ files. insert files (out_path e.name) e.bytes) old.contents

after_put : (bytes : List ℕ) (edits : List ClassEdit) (old : Held) → (all_done (put_some bytes ++ flat_map writing edits) old).contents ≡ option_map (with_written edits) old.contents
unfolding all_done
after_put [] edits old = after_writing edits old
after_put (b ∷ bytes) edits old = after_writing edits (done (Put (b ∷ bytes)) old)

-- ---- of a run that is done

done_by : (words : List (List ℕ)) (before after : Moment) (answer : Status) (outcome : Outcome) → Happens words before after outcome → answer ≡ answer_of outcome
    → HasOutput outcome (held_of before) (held_of after) → answer ≡ status.Done → IsDone words before.files.contents after.files.contents
done_by words before after answer (StoppedBefore NoLine) happens is output done = absurd cc
done_by words before after answer (StoppedBefore (Refuses refusal)) happens is output done = absurd cc
done_by words before after answer (StoppedBefore (ReadingFailed path)) happens is output done = absurd cc
done_by words before after answer (StoppedBefore NoMemory) happens is output done = absurd cc
done_by words before after answer (Came edits (Some step)) happens is output done = absurd cc
done_by words before after answer (Came edits None) happens is output done = record {
  edits = edits;
  are_edits = happens.0;
  written =
      ap (λ (h : Held). h.contents) (goes_all (output_of edits) (held_of before) (held_of after) output)
      ∙ after_put (flat_map edited_lines edits) edits (held_of before);
}

pub done_of_run : (words : List (List ℕ)) (before after : Moment) (answer : Status) → IsRun words before after answer → answer ≡ status.Done
    → IsDone words before.files.contents after.files.contents
done_of_run words before after answer run done = done_by words before after answer run.outcome run.happens run.answers run.output done

-- ---- runs

-- from the start of the run, since what was read changed nothing
pub since_start : (steps : List Step) (failed : Option Step) (before after : Option Contents) (writes_before writes_after : ℕ) (bytes : Option (List ℕ)) (puts : ℕ) (new : Held)
    → after ≡ before → writes_after ≡ writes_before
    → Goes steps failed (held after writes_after bytes puts) new → Goes steps failed (held before writes_before bytes puts) new
since_start steps failed before after writes_before writes_after bytes puts new contents writes goes =
    subst (λ (c : Option Contents). Goes steps failed (held c writes_before bytes puts) new) contents
    (subst (λ (n : ℕ). Goes steps failed (held after n bytes puts) new) writes goes)

pub run_done : (words : List (List ℕ)) (before after : Moment) (made : Made)
    → IsPrepared words before.files.contents made → Goes (output made) None (held_of before) (held_of after) → told_to after ≡ told_to before
    → IsRun words before after status.Done
run_done words before after made p goes same = record {
  outcome = Came p.edits None;
  happens = (p.are_edits, tt);
  answers = refl;
  output = subst (λ (steps : List Step). Goes steps None (held_of before) (held_of after)) p.output goes;
  tells = same;
}

pub run_failed : (words : List (List ℕ)) (before after : Moment) (answer : Status) (made : Made) (step : Step) (line : List ℕ)
    → IsPrepared words before.files.contents made → Goes (output made) (Some step) (held_of before) (held_of after) → HasFailed before after (Some step) → answer ≡ status.Outside
    → line ≡ failed_line step → PutFails line (told_to before) (told_to after) → ((ErrFault before after → ⊥) → told_to after ≡ put line (told_to before))
    → IsRun words before after answer
run_failed words before after answer made step line p goes fault is line_is front whole = record {
  outcome = Came p.edits (Some step);
  happens = (p.are_edits, fault);
  answers = is;
  output = subst (λ (steps : List Step). Goes steps (Some step) (held_of before) (held_of after)) p.output goes;
  tells = (
    subst (λ (l : List ℕ). PutFails l (told_to before) (told_to after)) line_is front,
    λ none. whole none ∙ ap (λ (l : List ℕ). put l (told_to before)) line_is,
  );
}

pub run_stopped : (words : List (List ℕ)) (before after : Moment) (answer : Status) (stop : Stop) (line : List ℕ)
    → Stopped words before.files.contents (FilesFault before after) stop → held_of after ≡ held_of before → answer ≡ stop.status → line ≡ line_bytes stop.line
    → PutFails line (told_to before) (told_to after) → ((ErrFault before after → ⊥) → told_to after ≡ put line (told_to before))
    → IsRun words before after answer
run_stopped words before after answer stop line (cause, explains, tells) same is line_is front whole = record {
  outcome = StoppedBefore cause;
  happens = explains;
  answers = is ∙ tells.status;
  output = same;
  tells = (
    subst (λ (l : List ℕ). PutFails l (told_to before) (told_to after)) (line_is ∙ tells.line) front,
    λ none. whole none ∙ ap (λ (l : List ℕ). put l (told_to before)) (line_is ∙ tells.line),
  );
}
