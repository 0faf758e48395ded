-- The steps of a run, put together.
use Rattle.std.proofs.Common.{inl, inr, ◌≡◌, ℕ, ◌<◌, ◌≤◌, List, [], ◌∷◌, ◌++◌, Option, Some, None, Result, Ok, Err, length, refl, sym, ap, ◌∙◌, arith}
use Rattle.std.specs.Prelude.{IfOk, IfErr, IfSome, string_bytes}
use Rattle.std.specs.List.{AllByRecursion}
use Rattle.std.proofs.lemmas.List.{append-nil}
use Rattle.std.proofs.lemmas.List.Elements.{All-from_recursion}
use Rattle.je_base.specs.Count.{HasFault}
use Rattle.je_base.specs.Files.{Contents}
use Rattle.je_class.specs.Class.{Class}
use Rattle.je_class.specs.ClassBytes.{ClassBytes}
use Rattle.je_session.specs.declared.session.made.Made.{Made}
use Rattle.je_session.specs.declared.plan.Script.{Script}
use Rattle.je_session.specs.Tokens.{IsWordByte}
use Rattle.je_session.specs.Script.{ScriptForm}
use Rattle.je_session.specs.Forms.{Holds, IsLine, ClassForm, ReadsScript, ReadsClass, class_path, out_path}
use Rattle.je_session.specs.ClassEdit.{ClassEdit, IsPlanEdit, plan_edit, IsEditOf}
use Rattle.je_session.specs.Output.{Step, Put, Write}
use Rattle.je_session.specs.ReportText.{edited_line, wrote_line, put_some, output_of}
use Rattle.je_session.specs.Kept.{MethodForm}
use Rattle.je_session.specs.Prepared.{HasAsciiNames, HasLines, IsPrepared, IsSource, output}

pub reads_script : (words : List (List ℕ)) (files : Option Contents) (path text : List ℕ) (script : Script)
    → IsLine words path → Holds files path text → length text ≤ 4194304 → ScriptForm text script
    → IfSome files (λ before. ReadsScript words before script)
reads_script words None path text script line holds short form = tt
reads_script words (Some files) path text script line holds short form =
    record { path = path; line = line; text = text; found = holds; is_script = record { short = short; form = form } }

word_below : (w : List ℕ) → AllByRecursion IsWordByte w → AllByRecursion (λ b. b < 128) w
word_below [] h = tt
word_below (b ∷ w) h = (grind arith, word_below w h.1)

-- the names of a script are words, so they are of ASCII
pub ascii_names : (text : List ℕ) (script : Script) → ScriptForm text script → HasAsciiNames script
ascii_names text script form =
    let after_class = form.tokens.6 in
    let after_void = after_class.6.5.6.6 in
    (All-from_recursion (λ b. b < 128) script.class_name (word_below script.class_name after_class.3.1), All-from_recursion (λ b. b < 128) script.plan.name (word_below script.plan.name after_void.3.1))

-- ---- what is made

-- the edit of a script's class
abbrev the_edit : Script → Class → Class → ℕ → List ℕ → ClassEdit
the_edit script source edited matched bytes = record {
  name = script.class_name;
  source = source;
  plans = plan_edit script.plan source edited matched ∷ [];
  edited = edited;
  bytes = bytes;
}

reads_class : (files : Option Contents) (script : Script) (bytes : List ℕ) (source : Class) → Holds files (class_path script.class_name) bytes
    → ClassForm script bytes source → IfSome files (λ before. ReadsClass before script source)
reads_class None script bytes source holds form = tt
reads_class (Some files) script bytes source holds form = record { bytes = bytes; found = holds; is_class = form }

is_edit : (files : Option Contents) (script : Script) (bytes : List ℕ) (source edited : Class) (matched : ℕ) (written : List ℕ)
    → Holds files (class_path script.class_name) bytes → ClassForm script bytes source → IsPlanEdit (plan_edit script.plan source edited matched)
    → ClassBytes written edited → IsEditOf files script (the_edit script source edited matched written)
is_edit files script bytes source edited matched written holds form is_plan_edit spelled = record {
  name = refl;
  planned = refl;
  source = reads_class files script bytes source holds form;
  leads = (refl, is_plan_edit, refl);
  kept = is_plan_edit.kept;
  bytes = spelled;
}

-- a source class whose planned method has the form
pub class_form : (script : Script) (bytes : List ℕ) (source : Class) → IsSource script bytes source → MethodForm source script.plan.name → ClassForm script bytes source
class_form script bytes source is form = record { short = is.file.short; bytes_are = is.file.bytes_are; version = is.version; name = is.name; method = form }

steps : List ℕ → List ℕ → List ℕ → List ℕ → List Step
steps first path bytes last = Put first ∷ Write path bytes ∷ Put last ∷ []

-- the line of one method is not empty
one_line : (class method : List ℕ) (matched : ℕ) → put_some ((edited_line class method matched ++ []) ++ []) ≡ Put (edited_line class method matched) ∷ []
one_line class method matched =
    let line = edited_line class method matched in
    ap put_some (append-nil (line ++ []) ∙ append-nil line)

-- what was made is the output of the edit
output-edit : (made : Made) (script : Script) (source edited : Class) (matched : ℕ) → HasLines script matched made
    → output made ≡ output_of (the_edit script source edited matched made.bytes.items ∷ [])
unfolding steps
output-edit made script source edited matched lines =
    let line = edited_line script.class_name script.plan.name matched in
    let path = out_path script.class_name in
    ap (λ (l : List ℕ). steps l (string_bytes made.path) made.bytes.items (string_bytes made.wrote_line)) lines.edited_line
    ∙ ap (λ (l : List ℕ). steps line (string_bytes made.path) made.bytes.items l) lines.wrote_line
    ∙ ap (λ (at : List ℕ). steps line at made.bytes.items (wrote_line at)) lines.path
    ∙ sym (ap (λ (first : List Step). first ++ Write path made.bytes.items ∷ Put (wrote_line path) ∷ []) (one_line script.class_name script.plan.name matched))

pub prepared : (words : List (List ℕ)) (files : Option Contents) (bytes : List ℕ) (script : Script) (source edited : Class) (matched : ℕ) (made : Made)
    → ((path : List ℕ) × IsLine words path)
    → IfSome files (λ before. ReadsScript words before script) → Holds files (class_path script.class_name) bytes
    → ClassForm script bytes source → IsPlanEdit (plan_edit script.plan source edited matched)
    → ClassBytes made.bytes.items edited → HasLines script matched made → IsPrepared words files made
prepared words files bytes script source edited matched made line reads holds form is_plan_edit spelled lines = record {
  edits = the_edit script source edited matched made.bytes.items ∷ [];
  are_edits = record {
    line = line;
    script = script;
    read = reads;
    each = (is_edit files script bytes source edited matched made.bytes.items holds form is_plan_edit spelled, tt);
  };
  output = output-edit made script source edited matched lines;
  writing_line = lines.writing_line;
}

-- what follows from two facts about an `Ok`
pub if_ok_both : {T E : Type 0} {P Q R : T → Type 0} (r : Result T E) → IfOk r P → IfOk r Q → ((x : T) → P x → Q x → R x) → IfOk r R
if_ok_both (Ok x) p q f = f x p q
if_ok_both (Err e) p q f = tt

-- what follows for each `Err`
pub if_err_then : {T E : Type 0} {P Q : E → Type 0} (r : Result T E) → IfErr r P → ((e : E) → P e → Q e) → IfErr r Q
if_err_then (Ok x) p f = tt
if_err_then (Err e) p f = f e p

pub if_err_all : {T E : Type 0} {P : E → Type 0} (r : Result T E) → ((e : E) → P e) → IfErr r P
if_err_all (Ok x) f = tt
if_err_all (Err e) f = f e

-- ---- stops at an output

-- a fault since an earlier moment
pub fault_since : (a b c : ℕ) → a ≤ b → HasFault b c → HasFault a c
fault_since a b c le (inl rose) = inl (omega arith)
fault_since a b c le (inr last) = inr last
