-- Serves private functions: what a run has made when it comes to its output.
use Rattle.std.specs.Prelude.{◌≡◌, ℕ, ◌<◌, All, List, [], ◌∷◌, Option, Some, string_bytes}
use Rattle.je_base.specs.Files.{Contents}
use Rattle.je_consts.specs.Pool.{class_at}
use Rattle.je_class.specs.Class.{Class}
use Rattle.je_session.specs.declared.session.made.Made.{Made}
use Rattle.je_session.specs.declared.plan.Script.{Script}
use Rattle.je_session.specs.ClassEdit.{ClassEdit}
use Rattle.je_session.specs.Forms.{IsClassFile, out_path}
use Rattle.je_session.specs.Outcome.{AreEdits}
use Rattle.je_session.specs.Output.{Step, Put, Write}
use Rattle.je_session.specs.ReportText as report

-- names that are written as they are
abbrev pub HasAsciiNames : Script → Type 0
HasAsciiNames script = All (λ b. b < 128) script.class_name × All (λ b. b < 128) script.plan.name

-- the bytes are a class file of version 49, of the script's class
pub record IsSource (script : Script) (bytes : List ℕ) (source : Class) : Type 0 where
  pub file : IsClassFile bytes source
  pub version : source.major ≡ 49
  pub name : class_at source.consts source.this_class ≡ Some script.class_name

-- what is put and written, in order
abbrev pub output : Made → List Step
output made =
    Put (string_bytes made.edited_line) ∷ Write (string_bytes made.path) made.bytes.items
    ∷ Put (string_bytes made.wrote_line) ∷ []

-- the path and the lines of the edit of a script
pub record HasLines (script : Script) (matched : ℕ) (made : Made) : Type 0 where
  pub path : string_bytes made.path ≡ out_path script.class_name
  pub edited_line : string_bytes made.edited_line
      ≡ report.edited_line script.class_name script.plan.name matched
  pub wrote_line : string_bytes made.wrote_line ≡ report.wrote_line (string_bytes made.path)
  pub writing_line : string_bytes made.writing_line
      ≡ report.failed_line (Write (string_bytes made.path) made.bytes.items)

-- all of it is made, of the edits of what was read
pub record IsPrepared (words : List (List ℕ)) (files : Option Contents) (made : Made) : Type 0 where
  pub edits : List ClassEdit
  pub are_edits : AreEdits words files edits
  pub output : output made ≡ report.output_of edits
  pub writing_line : string_bytes made.writing_line
      ≡ report.failed_line (Write (string_bytes made.path) made.bytes.items)
