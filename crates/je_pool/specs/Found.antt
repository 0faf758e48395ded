-- What files tell of the class of a name.
use Rattle.std.specs.Prelude.{◌≡◌, ◌≢◌, ℕ, ◌≤◌, List, [], ◌∷◌, length, Option, Some, None}
use Rattle.std.specs.Option.{option_or, option_and_then}
use Rattle.std.specs.FinMap.{get}
use Rattle.je_base.specs.Files.{Contents}
use Rattle.je_consts.specs.Pool.{class_at}
use Rattle.je_class.specs.declared.fault.ClassFault.{ClassFault}
use Rattle.je_class.specs.declared.fault.TheConstants.{MOST_BYTES}
use Rattle.je_class.specs.Class.{Class}
use Rattle.je_class.specs.ClassBytes.{ClassBytes}
use Rattle.je_class.specs.Faults.{FirstFault}
use Rattle.je_world.specs.Question.{Name}
use Rattle.je_pool.specs.Path.{file_name, path_in}

-- the file of this name in the first of the folders that has one
abbrev pub first_file : Contents → List (List ℕ) → List ℕ → Option (List ℕ)
first_file files [] name = None
first_file files (root ∷ roots) name =
    option_or (get files (path_in root name)) (first_file files roots name)

-- the file of a class; a name that is not asked has none
abbrev pub file_of : Contents → List (List ℕ) → Name → Option (List ℕ)
file_of files roots name = option_and_then (first_file files roots) (file_name name)

-- the bytes are a class file of this class
pub record IsClassFile (bytes : List ℕ) (c : Class) : Type 0 where
  pub short : length bytes ≤ MOST_BYTES
  pub bytes_are : ClassBytes bytes c

-- the class has this name (JVMS SE 8 4.1)
abbrev pub IsNamed : Name → Class → Type 0
IsNamed name c = class_at c.consts c.this_class ≡ Some name

-- what is found under a name: nothing, a class, what is no class file, or a class of another name
pub data Found : Type 0 where
  Nothing : Found
  IsClass : (class : Class) → Found
  BadClass : (fault : ClassFault) → Found
  WrongName : (other : Name) → Found

-- what a file is to the name that it lies under (JVMS SE 8 5.3.5)
abbrev pub FileIs : Name → List ℕ → Found → Type 0
FileIs name bytes Nothing = ⊥
FileIs name bytes (IsClass c) = IsClassFile bytes c × IsNamed name c
FileIs name bytes (BadClass fault) = FirstFault bytes fault
FileIs name bytes (WrongName other) =
    (other ≢ name) × (c : Class) × IsClassFile bytes c × IsNamed other c

-- what there is under a name, by its file, if it has one
abbrev pub FileTells : Name → Option (List ℕ) → Found → Type 0
FileTells name (Some bytes) found = FileIs name bytes found
FileTells name None found = found ≡ Nothing

-- What files in these folders tell of a name: the first folder that has its file counts.
abbrev pub WorldOf : Contents → List (List ℕ) → Name → Found → Type 0
WorldOf files roots name found = FileTells name (file_of files roots name) found
