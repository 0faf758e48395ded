-- What stops at the class of a script stops the run.
use Rattle.std.proofs.Common.{◌≡◌, ℕ, List, Option, Some, None, inl, inr, refl, sym, ap, ◌∙◌}
use Rattle.std.specs.Prelude.{IfSome}
use Rattle.std.specs.FinMap.{get}
use Rattle.je_base.specs.Files.{Contents}
use Rattle.je_class.specs.declared.fault.ClassFault.TheVariants as fault
use Rattle.je_class.specs.Class.{Class}
use Rattle.je_class.specs.Faults.{too_long}
use Rattle.je_session.specs.declared.plan.Script.{Script}
use Rattle.je_session.specs.declared.session.report.Stop.{Stop}
use Rattle.je_session.specs.Forms.{Holds, HoldsMore, ReadsScript, class_path}
use Rattle.je_session.specs.Cause.{Refusal, NoScript, NotYetScript, NoClass, BadClass, WrongName, NotYetClass, Refuses, NoMemory, IsClassRefusal, IsRefusal, Tells, Stopped, StoppedAtBytes, StoppedAtMethod, StoppedAtClass}
use Rattle.je_session.specs.Prepared.{IsSource}

-- a file that is too long
pub stopped_too_long : {files_fault : Type 0} (script : Script) (files : Option Contents) (path : List ℕ) (stop : Stop)
    → path ≡ class_path script.class_name → HoldsMore files path 16777216 → Tells (Refuses (BadClass script.class_name fault.TooLong)) stop
    → StoppedAtClass script files files_fault stop
stopped_too_long script None path stop is more (inl tells) = (Refuses (BadClass script.class_name fault.TooLong), tt, tells)
stopped_too_long script (Some files) path stop is (bytes, found, long) (inl tells) =
    (Refuses (BadClass script.class_name fault.TooLong), (bytes, ap (get files) (sym is) ∙ found, (refl, too_long long)), tells)
stopped_too_long script None path stop is more (inr tells) = (NoMemory, tt, tells)
stopped_too_long script (Some files) path stop is more (inr tells) = (NoMemory, tt, tells)

is_refusal : (words : List (List ℕ)) (files : Contents) (script : Script) (bytes : List ℕ) → ReadsScript words files script → get files (class_path script.class_name) ≡ Some bytes
    → (refusal : Refusal) → IsClassRefusal script bytes refusal → IsRefusal words files refusal
is_refusal words files script bytes reads found (NoScript path) is = absurd is
is_refusal words files script bytes reads found NotYetScript is = absurd is
is_refusal words files script bytes reads found (NoClass name) is = absurd is
is_refusal words files script bytes reads found (BadClass name fault) is = (script, bytes, reads, found, is)
is_refusal words files script bytes reads found (WrongName name other) is = (script, bytes, reads, found, is)
is_refusal words files script bytes reads found NotYetClass is = (script, bytes, reads, found, is)

-- bytes that are refused
pub stopped_at_bytes : {files_fault : Type 0} (words : List (List ℕ)) (files : Option Contents) (script : Script) (bytes : List ℕ) (stop : Stop)
    → IfSome files (λ before. ReadsScript words before script) → Holds files (class_path script.class_name) bytes
    → StoppedAtBytes script bytes stop → Stopped words files files_fault stop
stopped_at_bytes words None script bytes stop reads found (inr (refusal, is, inl tells)) = (Refuses refusal, tt, tells)
stopped_at_bytes words (Some files) script bytes stop reads found (inr (refusal, is, inl tells)) = (Refuses refusal, is_refusal words files script bytes reads found refusal is, tells)
stopped_at_bytes words files script bytes stop reads found (inr (refusal, is, inr tells)) = (NoMemory, tt, tells)
stopped_at_bytes words files script bytes stop reads found (inl tells) = (NoMemory, tt, tells)

-- a method that has not the form
pub stopped_at_method : (script : Script) (bytes : List ℕ) (source : Class) (stop : Stop) → IsSource script bytes source
    → StoppedAtMethod source script.plan stop → StoppedAtBytes script bytes stop
stopped_at_method script bytes source stop is (inl tells) = inl tells
stopped_at_method script bytes source stop is (inr (no_form, tells)) = inr (NotYetClass, (source, is.file, is.name, inr no_form), inl tells)
