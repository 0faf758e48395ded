-- A pool: classes that are kept, over folders of class files.
use Rattle.std.specs.Prelude.{◌≡◌, ℕ, Bool, false, List, [], ◌∷◌, ◌++◌, ◌↔◌, slice_get}
use Rattle.std.specs.Prelude.{Option, Some, None, Result, Ok, Err, IsSomeAnd, if◌then◌else◌}
use Rattle.std.specs.Prelude.{slice_set, is_some, ◌||◌, true, take}
use Rattle.je_base.specs.Files.{Contents}
use Rattle.je_base.specs.Text.{is_same_text}
use Rattle.je_consts.specs.Pool.{class_at}
use Rattle.je_class.specs.Class.{Class}
use Rattle.je_world.specs.Question.{Name}
use Rattle.je_world.specs.World.{is_listed}
use Rattle.je_pool.specs.declared.id.ClassId.{ClassId}
use Rattle.je_pool.specs.declared.fault.PoolRefusal.{PoolRefusal}
use Rattle.je_pool.specs.declared.fault.PoolRefusal.TheVariants as refusal
use Rattle.je_pool.specs.declared.fault.State.{State}
use Rattle.je_pool.specs.declared.fault.State.TheVariants as state
use Rattle.je_pool.specs.declared.fault.Stop.{Stop}
use Rattle.je_pool.specs.declared.fault.Stop.TheVariants as stop
use Rattle.je_pool.specs.Found.{Found, Nothing, IsClass, BadClass, WrongName, WorldOf}
use Rattle.je_pool.specs.declared.fault.PoolFault.{PoolFault}
use Rattle.je_pool.specs.declared.fault.PoolFault.TheVariants as fault

-- What a pool holds.
pub record PoolState : Type 0 where
  -- the folders of its class files, in the order in which they are asked
  pub roots : List (List ℕ)
  -- the classes that it keeps, in the order in which they came
  pub classes : List Class
  -- the names that were asked, each once, in the order of their first asking
  pub asked : List Name

-- the text is this name
abbrev pub is_name : Name → Option Name → Bool
is_name name None = false
is_name name (Some own) = is_same_text own name

-- the class of this name, if it is among these
abbrev pub kept : Name → List Class → Option Class
kept name [] = None
kept name (c ∷ classes) =
    if is_name name (class_at c.consts c.this_class) then Some c else kept name classes

-- what is found under a name: what is kept, and else what the files tell
abbrev pub FoundBy : Option Class → (Found → Type 0) → Found → Type 0
FoundBy (Some c) Told found = found ≡ IsClass c
FoundBy None Told found = Told found

-- What is found under a name in a pool over files.
abbrev pub PoolTells : PoolState → Contents → Name → Found → Type 0
PoolTells pool files name found =
    FoundBy (kept name pool.classes) (WorldOf files pool.roots name) found

-- the fault of what is found; a failure and want of memory are said elsewhere
abbrev pub FaultFound : Name → (Found → Type 0) → PoolFault → Type 0
FaultFound name Tells (fault.BadClass asked why) = (asked ≡ name) × Tells (BadClass why)
FaultFound name Tells (fault.WrongName asked other) = (asked ≡ name) × Tells (WrongName other)
FaultFound name Tells fault.Failed = Unit {0}
FaultFound name Tells fault.Memory = Unit {0}

-- the answer of `find` for what is found: the place of the class among these
abbrev pub AnswersFound :
    Name → List Class → (Found → Type 0) → Result (Option ClassId) PoolFault → Type 0
AnswersFound name classes Tells (Ok None) = Tells Nothing
AnswersFound name classes Tells (Ok (Some id)) =
    IsSomeAnd (slice_get classes id.0) (λ c. Tells (IsClass c))
AnswersFound name classes Tells (Err why) = FaultFound name Tells why

-- the same is found under each name
abbrev pub SameWorld : Contents → PoolState → PoolState → Type 0
SameWorld files old new =
    (name : Name) (found : Found) → PoolTells old files name found ↔ PoolTells new files name found

-- the name of a class
abbrev pub name_at : Class → Option Name
name_at c = class_at c.consts c.this_class

-- A class of this name is kept, or the name was asked.
abbrev pub is_taken : PoolState → Name → Bool
is_taken pool name = is_some (kept name pool.classes) || is_listed name pool.asked

-- one class more
abbrev pub with_class : PoolState → Class → PoolState
with_class pool c = record pool { classes = pool.classes ++ c ∷ [] }

-- another class in place of one
abbrev pub with_changed : PoolState → ℕ → Class → PoolState
with_changed pool id c = record pool { classes = slice_set pool.classes id c }

-- what is found under a name where a class was put under its own name, which is this one or not
abbrev pub FoundWith : Bool → Class → (Found → Type 0) → Found → Type 0
FoundWith true c Told found = found ≡ IsClass c
FoundWith false c Told found = Told found

-- Over all files: under the name of the class it is found, and what was found under every other.
abbrev pub Puts : PoolState → Class → PoolState → Type 0
Puts old c new =
    (files : Contents) (name : Name) (found : Found) → PoolTells new files name found
    ↔ FoundWith (is_name name (name_at c)) c (PoolTells old files name) found

-- no class before this place has the name of this class
abbrev pub IsFirst : PoolState → ℕ → Class → Type 0
IsFirst pool id c =
    (name : Name) → name_at c ≡ Some name → kept name (take id pool.classes) ≡ None

-- what may be done with a class; so far all is
abbrev pub state_of : PoolState → ℕ → State
state_of pool id = state.Editable

-- what a class of this state refuses to be looked at by
abbrev pub RefusesClass : State → PoolRefusal → Type 0
RefusesClass s refusal.Detached = s ≡ state.Detached
RefusesClass s _ = ⊥

-- what a class of this state refuses to be changed by
abbrev pub RefusesChange : State → Stop → Type 0
RefusesChange s (stop.Refused refusal.Frozen) = s ≡ state.Frozen
RefusesChange s (stop.Refused refusal.Pruned) = s ≡ state.Pruned
RefusesChange s (stop.Refused refusal.Detached) = s ≡ state.Detached
RefusesChange s stop.Memory = Unit {0}
