-- What a loader asks of files, and what it makes of what they hold.
use Rattle.std.specs.Prelude.{◌≡◌, ℕ, ◌+◌, List, [], ◌++◌, map, take}
use Rattle.std.specs.Prelude.{Option, Some, None, Result, Ok, Err}
use Rattle.std.specs.Option.{option_map}
use Rattle.std.specs.Global.{Vec}
use Rattle.je_base.specs.Files.{Contents}
use Rattle.je_class.specs.declared.fault.TheConstants.{MOST_BYTES}
use Rattle.je_class.specs.Class.{Class}
use Rattle.je_world.specs.Question.{Name}
use Rattle.je_pool.specs.Path.{path_in}
use Rattle.je_pool.specs.Found.{Found, Nothing, IsClass, WorldOf, first_file}
use Rattle.je_pool.specs.Pool.{FaultFound}
use Rattle.je_pool.specs.declared.fault.PoolFault.{PoolFault}

-- the paths of a name in folders; a name that is not asked has none
abbrev pub paths_of : List (List ℕ) → Option (List ℕ) → List (List ℕ)
paths_of roots None = []
paths_of roots (Some name) = map (λ root. path_in root name) roots

-- Some of these paths were asked, from the first on, where that is told.
pub record AsksSome (paths : List (List ℕ)) (old new : Option (List (List ℕ))) : Type 0 where
  pub asked : List (List ℕ)
  pub rest : List (List ℕ)
  pub all : paths ≡ asked ++ rest
  pub told : new ≡ option_map (λ so_far. so_far ++ asked) old

-- how many bytes of a file are read: one more than a class file has
abbrev pub most_read : ℕ
most_read = MOST_BYTES + 1

-- what is read is the front of the first file, where the contents are told
abbrev pub IsFront : Option Contents → List (List ℕ) → List ℕ → Option (Vec ℕ) → Type 0
IsFront None roots name found = Unit {0}
IsFront (Some files) roots name found =
    option_map (λ v. v.items) found ≡ option_map (take most_read) (first_file files roots name)

-- what was made of a file that was found, or that there is none
abbrev pub ReadsFound : Name → (Found → Type 0) → Result (Option Class) PoolFault → Type 0
ReadsFound name Tells (Ok None) = Tells Nothing
ReadsFound name Tells (Ok (Some c)) = Tells (IsClass c)
ReadsFound name Tells (Err why) = FaultFound name Tells why

-- it is what the files tell of the name, where that is told
abbrev pub ReadsTold :
    Option Contents → List (List ℕ) → Name → Result (Option Class) PoolFault → Type 0
ReadsTold None roots name result = Unit {0}
ReadsTold (Some files) roots name result = ReadsFound name (WorldOf files roots name) result
