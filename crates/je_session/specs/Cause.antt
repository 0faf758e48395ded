-- Why a run stopped before its output, the status that tells it, and the line.
use Rattle.std.specs.Prelude.{◌≡◌, ◌≢◌, ℕ, List, [], ◌∷◌, ◌++◌, codes, Option, Some, None, IfSome}
use Rattle.std.specs.Prelude.{string_bytes, ◌⊎◌}
use Rattle.std.specs.FinMap.{get}
use Rattle.je_base.specs.Files.{Contents}
use Rattle.je_base.specs.Shown.{shown}
use Rattle.je_consts.specs.Pool.{class_at}
use Rattle.je_class.specs.declared.fault.ClassFault.{ClassFault}
use Rattle.je_class.specs.Class.{Class}
use Rattle.je_class.specs.Faults.{FirstFault}
use Rattle.je_class.specs.Words.{fault_words}
use Rattle.je_session.specs.declared.plan.MethodPlan.{MethodPlan}
use Rattle.je_session.specs.declared.plan.Script.{Script}
use Rattle.je_session.specs.declared.session.report.Line.{Line}
use Rattle.je_session.specs.declared.session.report.Line.TheVariants.{Fixed, Made}
use Rattle.je_session.specs.declared.session.report.Stop.{Stop}
use Rattle.je_session.specs.declared.status.Status.{Status}
use Rattle.je_session.specs.declared.status.Status.TheVariants as status
use Rattle.je_session.specs.Forms.{IsLine, IsScript, IsClassFile, ReadsScript, ReadsClass}
use Rattle.je_session.specs.Forms.{class_path}
use Rattle.je_session.specs.Kept.{MethodForm}

-- ---- causes

-- what is wrong with the script or with the class
pub data Refusal : Type 0 where
  NoScript : (path : List ℕ) → Refusal
  NotYetScript : Refusal
  NoClass : (name : List ℕ) → Refusal
  -- the class's file is no class file
  BadClass : (name : List ℕ) (fault : ClassFault) → Refusal
  -- it is one, but of the class `found`
  WrongName : (name found : List ℕ) → Refusal
  NotYetClass : Refusal

pub data Cause : Type 0 where
  NoLine : Cause
  Refuses : (refusal : Refusal) → Cause
  ReadingFailed : (path : List ℕ) → Cause
  NoMemory : Cause

-- the refusal is that of the bytes of a script's class
abbrev pub IsClassRefusal : Script → List ℕ → Refusal → Type 0
IsClassRefusal script bytes (BadClass name fault) =
    (script.class_name ≡ name) × FirstFault bytes fault
IsClassRefusal script bytes (WrongName name found) =
    (script.class_name ≡ name) × (found ≢ name)
    × (source : Class) × IsClassFile bytes source
    × (class_at source.consts source.this_class ≡ Some found)
IsClassRefusal script bytes NotYetClass =
    (source : Class) × IsClassFile bytes source
    × (class_at source.consts source.this_class ≡ Some script.class_name)
    × ((source.major ≢ 49) ⊎ (MethodForm source script.plan.name → ⊥))
IsClassRefusal script bytes _ = ⊥

-- the script is read, and the refusal is that of the bytes at its class's place
abbrev pub RefusesClass : List (List ℕ) → Contents → Refusal → Type 0
RefusesClass words files refusal =
    (script : Script) × (bytes : List ℕ) × ReadsScript words files script
    × (get files (class_path script.class_name) ≡ Some bytes)
    × IsClassRefusal script bytes refusal

-- the refusal is that of these words and files
abbrev pub IsRefusal : List (List ℕ) → Contents → Refusal → Type 0
IsRefusal words files (NoScript path) = IsLine words path × (get files path ≡ None)
IsRefusal words files NotYetScript =
    (path : List ℕ) × (text : List ℕ) × IsLine words path × (get files path ≡ Some text)
    × ((script : Script) → IsScript text script → ⊥)
IsRefusal words files (NoClass name) =
    (script : Script) × ReadsScript words files script × (script.class_name ≡ name)
    × (get files (class_path name) ≡ None)
IsRefusal words files (BadClass name fault) = RefusesClass words files (BadClass name fault)
IsRefusal words files (WrongName name found) = RefusesClass words files (WrongName name found)
IsRefusal words files NotYetClass = RefusesClass words files NotYetClass

-- where a run reads: the path of the script, or of its class
abbrev pub IsReadPath : List (List ℕ) → Option Contents → List ℕ → Type 0
IsReadPath words files path =
    IsLine words path
    ⊎ ((script : Script) × IfSome files (λ before. ReadsScript words before script)
    × (path ≡ class_path script.class_name))

-- What the cause says of the words, of the files as they were told before, and of the faults of the
-- files. Want of memory shows nothing.
abbrev pub Explains : List (List ℕ) → Option Contents → Type 0 → Cause → Type 0
Explains words files files_fault NoLine = (path : List ℕ) → IsLine words path → ⊥
Explains words files files_fault (Refuses refusal) =
    IfSome files (λ before. IsRefusal words before refusal)
Explains words files files_fault (ReadingFailed path) = files_fault × IsReadPath words files path
Explains words files files_fault NoMemory = Unit {0}

abbrev pub status_of : Cause → Status
status_of NoLine = status.Usage
status_of (Refuses refusal) = status.Refused
status_of (ReadingFailed path) = status.Outside
status_of NoMemory = status.Memory

-- ---- lines

abbrev pub line_feed : List ℕ
line_feed = 10 ∷ []

abbrev pub refusal_line : Refusal → List ℕ
refusal_line (NoScript path) = codes "no script " ++ (path ++ line_feed)
refusal_line NotYetScript = codes "not yet script" ++ line_feed
refusal_line (NoClass name) = codes "no class " ++ (shown name ++ line_feed)
refusal_line (BadClass name fault) =
    codes "bad class " ++ (shown name ++ (codes " " ++ (fault_words fault ++ line_feed)))
refusal_line (WrongName name found) =
    codes "wrong name " ++ (shown name ++ (codes " found " ++ (shown found ++ line_feed)))
refusal_line NotYetClass = codes "not yet class" ++ line_feed

-- the line of a run that stopped
abbrev pub line_of : Cause → List ℕ
line_of NoLine =
    codes "usage: classedit [--path DIRS] [--out DIR] [--mode edit|check|list|gen] SCRIPT"
    ++ line_feed
line_of (Refuses refusal) = refusal_line refusal
line_of (ReadingFailed path) = codes "outside fault: reading " ++ (path ++ line_feed)
line_of NoMemory = codes "out of memory" ++ line_feed

-- ---- answers

-- the answers after which nothing was written and nothing put on standard output
abbrev pub IsQuiet : Status → Type 0
IsQuiet answer = (answer ≡ status.Refused) ⊎ (answer ≡ status.Usage) ⊎ (answer ≡ status.Memory)

-- where the refusal is that of these words and files, the run is not done and the words are no
-- faulty command line
abbrev pub IsRefused : List (List ℕ) → Option Contents → Refusal → Status → Type 0
IsRefused words files refusal answer =
    IfSome files (λ before. IsRefusal words before refusal → (answer ≡ status.Done → ⊥)
    × (answer ≡ status.Usage → ⊥))

-- Where script and class are read and nothing failed, the run is done, or memory ran out. Sizes are
-- no premise so far: an edit makes nothing larger.
abbrev pub IsComplete : List (List ℕ) → Option Contents → Type 0 → Type 0 → Script → Class → Status
    → Type 0
IsComplete words files files_fault out_fault script source answer =
    IfSome files (λ before. ReadsScript words before script → ReadsClass before script source
    → (files_fault → ⊥) → (out_fault → ⊥) → (answer ≡ status.Done) ⊎ (answer ≡ status.Memory))

-- ---- stops

abbrev pub line_bytes : Line → List ℕ
line_bytes (Fixed text) = text.now
line_bytes (Made line) = string_bytes line

-- the stop has the status and the line of the cause
pub record TellsCause (cause : Cause) (stop : Stop) : Type 0 where
  pub status : stop.status ≡ status_of cause
  pub line : line_bytes stop.line ≡ line_of cause

-- the stop tells the cause, or that there was no memory to tell it
abbrev pub Tells : Cause → Stop → Type 0
Tells cause stop = TellsCause cause stop ⊎ TellsCause NoMemory stop

-- the stop tells a cause that explains it
abbrev pub Stopped : List (List ℕ) → Option Contents → Type 0 → Stop → Type 0
Stopped words files files_fault stop =
    (cause : Cause) × Explains words files files_fault cause × TellsCause cause stop

-- a stop at the bytes of a script's class: for want of memory, or with a refusal of them
abbrev pub StoppedAtBytes : Script → List ℕ → Stop → Type 0
StoppedAtBytes script bytes stop =
    TellsCause NoMemory stop
    ⊎ ((refusal : Refusal) × IsClassRefusal script bytes refusal × Tells (Refuses refusal) stop)

-- a stop at the method of a plan: for want of memory, or since the method has not the form
abbrev pub StoppedAtMethod : Class → MethodPlan → Stop → Type 0
StoppedAtMethod source plan stop =
    TellsCause NoMemory stop
    ⊎ ((MethodForm source plan.name → ⊥) × TellsCause (Refuses NotYetClass) stop)

-- what the cause of a stop at the class of a script says
abbrev pub ExplainsAtClass : Script → Option Contents → Type 0 → Cause → Type 0
ExplainsAtClass script files files_fault (Refuses (NoClass name)) =
    (script.class_name ≡ name) × IfSome files (λ before. get before (class_path name) ≡ None)
ExplainsAtClass script files files_fault (Refuses (BadClass name fault)) =
    IfSome files (λ before. (bytes : List ℕ)
    × (get before (class_path script.class_name) ≡ Some bytes)
    × IsClassRefusal script bytes (BadClass name fault))
ExplainsAtClass script files files_fault (ReadingFailed path) =
    files_fault × (path ≡ class_path script.class_name)
ExplainsAtClass script files files_fault NoMemory = Unit {0}
ExplainsAtClass script files files_fault _ = ⊥

abbrev pub StoppedAtClass : Script → Option Contents → Type 0 → Stop → Type 0
StoppedAtClass script files files_fault stop =
    (cause : Cause) × ExplainsAtClass script files files_fault cause × TellsCause cause stop
