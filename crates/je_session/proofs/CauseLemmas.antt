-- What excludes what among the causes of a stop.
use Rattle.std.proofs.Common.{◌≡◌, ℕ, ◌≤◌, List, length, Option, Some, None, ◌⊎◌, inl, inr, refl, sym, ap, subst, ◌∙◌}
use Rattle.std.specs.Prelude.{IfSome, [], ◌∷◌}
use Rattle.std.specs.List.{AllZip}
use Rattle.std.specs.FinMap.{get}
use Rattle.je_base.specs.Files.{Contents}
use Rattle.je_consts.specs.Pool.{class_at}
use Rattle.je_class.specs.declared.fault.ClassFault.{ClassFault}
use Rattle.je_class.specs.Class.{Class}
use Rattle.je_class.specs.ClassBytes.{ClassBytes}
use Rattle.je_class.specs.Faults.{FirstFault}
use Rattle.je_session.specs.declared.plan.Script.{Script}
use Rattle.je_session.specs.declared.status.Status.{Status}
use Rattle.je_session.specs.declared.status.Status.TheVariants as status
use Rattle.je_session.specs.Forms.{IsLine, IsScript, ClassForm, ReadsScript, ReadsClass, class_path}
use Rattle.je_session.specs.Kept.{MethodForm}
use Rattle.je_session.specs.Cause.{Refusal, NoScript, NotYetScript, NoClass, BadClass, WrongName, NotYetClass, NoLine, Refuses, ReadingFailed, NoMemory, IsClassRefusal, RefusesClass, IsRefusal, IsQuiet, IsRefused, IsComplete}
use Rattle.je_session.specs.ClassEdit.{ClassEdit, IsEditOf}
use Rattle.je_session.specs.Moment.{Moment, FilesFault, OutFault}
use Rattle.je_session.specs.Output.{Put, Write}
use Rattle.je_session.specs.Outcome.{Outcome, Stopped, Came, classes_of, AreEdits, Happens, answer_of, IsRun}
use Rattle.je_session.proofs.ScriptLemmas.{one_script}

pub one_path : (words : List (List ℕ)) (a b : List ℕ) → IsLine words a → IsLine words b → a ≡ b
one_path words a b f g = let e = f.0 in let d = g.0 in cc

pub one_found : (files : Contents) (path a b : List ℕ) → get files path ≡ Some a → get files path ≡ Some b → a ≡ b
one_found files path a b f g = cc

pub never_both : (files : Contents) (path a : List ℕ) → get files path ≡ Some a → get files path ≡ None → ⊥
never_both files path a f g = cc

pub found_at : (files : Contents) (a b text : List ℕ) → a ≡ b → get files b ≡ Some text → get files a ≡ Some text
found_at files a b text e h = ap (get files) e ∙ h

-- the words and the files name one script
pub one_read : (words : List (List ℕ)) (files : Contents) (a b : Script) → ReadsScript words files a → ReadsScript words files b → a ≡ b
one_read words files a b f g =
    let path = one_path words f.path g.path f.line g.line in
    let text = one_found files f.path f.text g.text f.found (found_at files f.path g.path g.text path g.found) in
    one_script f.text a b f.is_script.form (subst (λ (t : List ℕ). IsScript t b) (sym text) g.is_script).form

-- ---- what is read is not refused

-- bytes spell at most one class, and have no first fault then
pub record ClassLaws : Type 0 where
  pub same : (bytes : List ℕ) (c d : Class) → ClassBytes bytes c → ClassBytes bytes d → c ≡ d
  pub no_fault : (bytes : List ℕ) (c : Class) (fault : ClassFault) → length bytes ≤ 16777216 → ClassBytes bytes c → FirstFault bytes fault → ⊥

abbrev pub laws_of : ((bytes : List ℕ) (c d : Class) → ClassBytes bytes c → ClassBytes bytes d → c ≡ d)
    → ((bytes : List ℕ) (c : Class) (fault : ClassFault) → length bytes ≤ 16777216 → ClassBytes bytes c → FirstFault bytes fault → ⊥) → ClassLaws
laws_of same no_fault = record { same = same; no_fault = no_fault }

other_name : (script : Script) (source other : Class) (name found : List ℕ) → other ≡ source → class_at source.consts source.this_class ≡ Some script.class_name
    → class_at other.consts other.this_class ≡ Some found → script.class_name ≡ name → found ≡ name
other_name script source other name found same wanted there is = cc

-- a class that has the form is not refused
has_the_form : ClassLaws → (script : Script) (bytes : List ℕ) (source : Class) → ClassForm script bytes source → (refusal : Refusal) → IsClassRefusal script bytes refusal → ⊥
has_the_form laws script bytes source form (NoScript path) is = is
has_the_form laws script bytes source form NotYetScript is = is
has_the_form laws script bytes source form (NoClass name) is = is
has_the_form laws script bytes source form (BadClass name fault) (name_is, first) = laws.no_fault bytes source fault form.short form.bytes_are first
has_the_form laws script bytes source form (WrongName name found) (name_is, other, file, is_file, there) =
    other (other_name script source file name found (laws.same bytes file source is_file.bytes_are form.bytes_are) form.name there name_is)
has_the_form laws script bytes source form NotYetClass (file, is_file, there, inl later) =
    later (ap (λ (c : Class). c.major) (laws.same bytes file source is_file.bytes_are form.bytes_are) ∙ form.version)
has_the_form laws script bytes source form NotYetClass (file, is_file, there, inr no_method) =
    no_method (subst (λ (c : Class). MethodForm c script.plan.name) (laws.same bytes source file form.bytes_are is_file.bytes_are) form.method)

-- nor is one that is read
no_class_refusal : ClassLaws → (words : List (List ℕ)) (files : Contents) (script : Script) (source : Class) → ReadsScript words files script → ReadsClass files script source
    → (refusal : Refusal) → RefusesClass words files refusal → ⊥
no_class_refusal laws words files script source reads finds refusal (other, bytes, reads_other, found, is) =
    let same = one_read words files script other reads reads_other in
    let at : class_path other.class_name ≡ class_path script.class_name = ap (λ (s : Script). class_path s.class_name) (sym same) in
    let bytes_are = one_found files (class_path other.class_name) bytes finds.bytes found (found_at files (class_path other.class_name) (class_path script.class_name) finds.bytes at finds.found) in
    let form : ClassForm other finds.bytes source = subst (λ (s : Script). ClassForm s finds.bytes source) same finds.is_class in
    has_the_form laws other bytes source (subst (λ (b : List ℕ). ClassForm other b source) (sym bytes_are) form) refusal is

-- where script and class are read nothing is refused
no_refusal : ClassLaws → (words : List (List ℕ)) (files : Contents) (script : Script) (source : Class) → ReadsScript words files script → ReadsClass files script source
    → (refusal : Refusal) → IsRefusal words files refusal → ⊥
no_refusal laws words files script source reads finds (NoScript path) (line, none) =
    never_both files path reads.text (found_at files path reads.path reads.text (one_path words path reads.path line reads.line) reads.found) none
no_refusal laws words files script source reads finds NotYetScript (path, text, line, found, none) =
    let same = one_found files path text reads.text found (found_at files path reads.path reads.text (one_path words path reads.path line reads.line) reads.found) in
    none script (subst (λ (t : List ℕ). IsScript t script) (sym same) reads.is_script)
no_refusal laws words files script source reads finds (NoClass name) (other, reads_other, name_is, none) =
    let same = one_read words files script other reads reads_other in
    let at : class_path name ≡ class_path script.class_name = ap class_path (sym (ap (λ (s : Script). s.class_name) same ∙ name_is)) in
    never_both files (class_path name) finds.bytes (found_at files (class_path name) (class_path script.class_name) finds.bytes at finds.found) none
no_refusal laws words files script source reads finds (BadClass name fault) is = no_class_refusal laws words files script source reads finds (BadClass name fault) is
no_refusal laws words files script source reads finds (WrongName name found) is = no_class_refusal laws words files script source reads finds (WrongName name found) is
no_refusal laws words files script source reads finds NotYetClass is = no_class_refusal laws words files script source reads finds NotYetClass is

-- a refusal is of words that are a line
line_of_refusal : (words : List (List ℕ)) (files : Contents) (refusal : Refusal) → IsRefusal words files refusal → (path : List ℕ) × IsLine words path
line_of_refusal words files (NoScript path) (line, none) = (path, line)
line_of_refusal words files NotYetScript (path, text, line, found, none) = (path, line)
line_of_refusal words files (NoClass name) (script, reads, name_is, none) = (reads.path, reads.line)
line_of_refusal words files (BadClass name fault) (script, bytes, reads, found, is) = (reads.path, reads.line)
line_of_refusal words files (WrongName name other) (script, bytes, reads, found, is) = (reads.path, reads.line)
line_of_refusal words files NotYetClass (script, bytes, reads, found, is) = (reads.path, reads.line)

-- what happened where script and class are read and nothing failed
complete_by : ClassLaws → (words : List (List ℕ)) (files : Contents) (before after : Moment) (answer : Status) (script : Script) (source : Class) (outcome : Outcome)
    → before.files.contents ≡ Some files → Happens words before after outcome → answer ≡ answer_of outcome → ReadsScript words files script → ReadsClass files script source
    → (FilesFault before after → ⊥) → (OutFault before after → ⊥) → (answer ≡ status.Done) ⊎ (answer ≡ status.Memory)
complete_by laws words files before after answer script source (Stopped NoLine) told explains is reads finds no_files no_out = absurd (explains reads.path reads.line)
complete_by laws words files before after answer script source (Stopped (Refuses refusal)) told explains is reads finds no_files no_out =
    absurd (no_refusal laws words files script source reads finds refusal (subst (λ (f : Option Contents). IfSome f (λ b. IsRefusal words b refusal)) told explains))
complete_by laws words files before after answer script source (Stopped (ReadingFailed path)) told explains is reads finds no_files no_out = absurd (no_files explains.0)
complete_by laws words files before after answer script source (Stopped NoMemory) told explains is reads finds no_files no_out = inr is
complete_by laws words files before after answer script source (Came edits None) told happens is reads finds no_files no_out = inl is
complete_by laws words files before after answer script source (Came edits (Some (Put piece))) told happens is reads finds no_files no_out = absurd (no_out happens.1)
complete_by laws words files before after answer script source (Came edits (Some (Write path bytes))) told happens is reads finds no_files no_out = absurd (no_files happens.1)

complete_told : ClassLaws → (words : List (List ℕ)) (told : Option Contents) (before after : Moment) (answer : Status) → before.files.contents ≡ told → IsRun words before after answer
    → (script : Script) (source : Class) → IsComplete words told (FilesFault before after) (OutFault before after) script source answer
complete_told laws words None before after answer told run script source = tt
complete_told laws words (Some files) before after answer told run script source = λ reads finds no_files no_out.
    complete_by laws words files before after answer script source run.outcome told run.happens run.answers reads finds no_files no_out

pub complete_from : ClassLaws → (words : List (List ℕ)) (before after : Moment) (answer : Status) → IsRun words before after answer
    → (script : Script) (source : Class) → IsComplete words before.files.contents (FilesFault before after) (OutFault before after) script source answer
complete_from laws words before after answer run = complete_told laws words before.files.contents before after answer refl run

-- with a line the answer is not Usage
not_usage : (words : List (List ℕ)) (before after : Moment) (answer : Status) (outcome : Outcome) (path : List ℕ)
    → IsLine words path → Happens words before after outcome → answer ≡ answer_of outcome → answer ≡ status.Usage → ⊥
not_usage words before after answer (Stopped NoLine) path line explains is usage = explains path line
not_usage words before after answer (Stopped (Refuses refusal)) path line explains is usage = cc
not_usage words before after answer (Stopped (ReadingFailed at)) path line explains is usage = cc
not_usage words before after answer (Stopped NoMemory) path line explains is usage = cc
not_usage words before after answer (Came edits None) path line explains is usage = cc
not_usage words before after answer (Came edits (Some step)) path line explains is usage = cc

pub no_usage : (words : List (List ℕ)) (before after : Moment) (answer : Status) → IsRun words before after answer
    → (path : List ℕ) → IsLine words path → answer ≡ status.Usage → ⊥
no_usage words before after answer run path line usage = not_usage words before after answer run.outcome path line run.happens run.answers usage

-- what is edited is not refused
not_edited : ClassLaws → (words : List (List ℕ)) (files : Contents) (script : Script) (edits : List ClassEdit) → ReadsScript words files script
    → AllZip (IsEditOf (Some files)) (classes_of script) edits → (refusal : Refusal) → IsRefusal words files refusal → ⊥
not_edited laws words files script [] reads each refusal is = each
not_edited laws words files script (e ∷ edits) reads each refusal is = no_refusal laws words files script e.source reads each.0.source refusal is

-- what is refused is not done
not_done_by : ClassLaws → (words : List (List ℕ)) (files : Contents) (before after : Moment) (answer : Status) (outcome : Outcome) → before.files.contents ≡ Some files
    → Happens words before after outcome → answer ≡ answer_of outcome → (refusal : Refusal) → IsRefusal words files refusal → answer ≡ status.Done → ⊥
not_done_by laws words files before after answer (Stopped NoLine) told happens is refusal refused done = cc
not_done_by laws words files before after answer (Stopped (Refuses other)) told happens is refusal refused done = cc
not_done_by laws words files before after answer (Stopped (ReadingFailed path)) told happens is refusal refused done = cc
not_done_by laws words files before after answer (Stopped NoMemory) told happens is refusal refused done = cc
not_done_by laws words files before after answer (Came edits failed) told happens is refusal refused done =
    let edited = subst (λ (f : Option Contents). AreEdits words f edits) told happens.0 in
    not_edited laws words files edited.script edits edited.read edited.each refusal refused

refused_told : ClassLaws → (words : List (List ℕ)) (told : Option Contents) (before after : Moment) (answer : Status) → before.files.contents ≡ told → IsRun words before after answer
    → (refusal : Refusal) → IsRefused words told refusal answer
refused_told laws words None before after answer told run refusal = tt
refused_told laws words (Some files) before after answer told run refusal = λ is.
    let line = line_of_refusal words files refusal is in (
      λ done. not_done_by laws words files before after answer run.outcome told run.happens run.answers refusal is done,
      λ usage. no_usage words before after answer run line.0 line.1 usage,
    )

-- what is refused is not done, and its words are no faulty command line
pub refuses_from : ClassLaws → (words : List (List ℕ)) (before after : Moment) (answer : Status) → IsRun words before after answer
    → (refusal : Refusal) → IsRefused words before.files.contents refusal answer
refuses_from laws words before after answer run = refused_told laws words before.files.contents before after answer refl run

-- the answers after which something was put or written are not quiet
pub loud : (answer : Status) → answer ≡ status.Outside → IsQuiet answer → ⊥
loud answer is (inl refused) = cc
loud answer is (inr (inl usage)) = cc
loud answer is (inr (inr memory)) = cc
