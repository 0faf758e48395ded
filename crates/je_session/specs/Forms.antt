-- What a run reads: the words, the script and the class, in the forms that are read so far.
use Rattle.std.specs.Prelude.{◌≡◌, ◌≢◌, ℕ, ◌<◌, ◌≤◌, List, [], ◌∷◌, ◌++◌, length, take, codes}
use Rattle.std.specs.Prelude.{Option, Some, None}
use Rattle.std.specs.FinMap.{get}
use Rattle.je_base.specs.Files.{Contents}
use Rattle.je_consts.specs.Pool.{class_at}
use Rattle.je_class.specs.Class.{Class}
use Rattle.je_class.specs.ClassBytes.{ClassBytes}
use Rattle.je_session.specs.declared.plan.Script.{Script}
use Rattle.je_session.specs.Script.{ScriptForm}
use Rattle.je_session.specs.Kept.{MethodForm}

-- The words of a command line so far: one, which does not begin with `-`.
abbrev pub IsLine : List (List ℕ) → List ℕ → Type 0
IsLine words path = (words ≡ path ∷ []) × (take 1 path ≢ codes "-")

-- these bytes lie at the path, where the contents are told
abbrev pub Holds : Option Contents → List ℕ → List ℕ → Type 0
Holds None path bytes = Unit {0}
Holds (Some files) path bytes = get files path ≡ Some bytes

-- no file lies at the path
abbrev pub HoldsNone : Option Contents → List ℕ → Type 0
HoldsNone None path = Unit {0}
HoldsNone (Some files) path = get files path ≡ None

-- more than so many bytes lie at the path
abbrev pub HoldsMore : Option Contents → List ℕ → ℕ → Type 0
HoldsMore None path most = Unit {0}
HoldsMore (Some files) path most =
    (bytes : List ℕ) × (get files path ≡ Some bytes) × (most < length bytes)

-- where the class of a name is read
abbrev pub class_path : List ℕ → List ℕ
class_path name = codes "./" ++ (name ++ codes ".class")

-- where it is written
abbrev pub out_path : List ℕ → List ℕ
out_path name = codes "out/" ++ (name ++ codes ".class")

-- a script of at most 4,194,304 bytes in the form
pub record IsScript (text : List ℕ) (script : Script) : Type 0 where
  pub short : length text ≤ 4194304
  pub form : ScriptForm text script

-- a class file of at most 16,777,216 bytes
pub record IsClassFile (bytes : List ℕ) (source : Class) : Type 0 where
  pub short : length bytes ≤ 16777216
  pub bytes_are : ClassBytes bytes source

-- A class file of at most 16,777,216 bytes and of version 49, of the script's class, whose planned
-- method has the form.
pub record ClassForm (script : Script) (bytes : List ℕ) (source : Class) : Type 0 where
  pub short : length bytes ≤ 16777216
  pub bytes_are : ClassBytes bytes source
  pub version : source.major ≡ 49
  pub name : class_at source.consts source.this_class ≡ Some script.class_name
  pub method : MethodForm source script.plan.name

-- the script that the words name
pub record ReadsScript (words : List (List ℕ)) (files : Contents) (script : Script) : Type 0 where
  pub path : List ℕ
  pub line : IsLine words path
  pub text : List ℕ
  pub found : get files path ≡ Some text
  pub is_script : IsScript text script

-- the class of a script, where it is read
pub record ReadsClass (files : Contents) (script : Script) (source : Class) : Type 0 where
  pub bytes : List ℕ
  pub found : get files (class_path script.class_name) ≡ Some bytes
  pub is_class : ClassForm script bytes source
