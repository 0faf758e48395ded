-- What a loader finds of a name, and what it leaves of a pool.
use Rattle.std.specs.Prelude.{◌≡◌, ◌⊎◌, List, Option, Some, None, Result, Ok, Err}
use Rattle.std.specs.Prelude.{IsSomeAnd, slice_get}
use Rattle.je_base.specs.Files.{Contents}
use Rattle.je_class.specs.Class.{Class}
use Rattle.je_world.specs.Question.{Name}
use Rattle.je_pool.specs.declared.id.ClassId.{ClassId}
use Rattle.je_world.specs.declared.stop.Stop.{Stop}
use Rattle.je_world.specs.declared.stop.Stop.TheVariants as stop
use Rattle.je_pool.specs.declared.fault.PoolFault.{PoolFault}
use Rattle.je_pool.specs.declared.fault.PoolFault.TheVariants as fault
use Rattle.je_pool.specs.Found.{IsNamed}
use Rattle.je_pool.specs.Pool.{PoolState, PoolTells, AnswersFound, SameWorld, with_class}

-- The answer is what is found in the pool over the files, where these are told.
abbrev pub FindsTold :
    Option Contents → PoolState → Name → List Class → Result (Option ClassId) PoolFault → Type 0
FindsTold None pool name classes result = Unit {0}
FindsTold (Some files) pool name classes result =
    AnswersFound name classes (PoolTells pool files name) result

-- the same is found under each name
abbrev pub SameTold : Option Contents → PoolState → PoolState → Type 0
SameTold None old new = Unit {0}
SameTold (Some files) old new = SameWorld files old new

-- the class of this place has this name
abbrev pub IsNamedAt : Name → List Class → ClassId → Type 0
IsNamedAt name classes id = IsSomeAnd (slice_get classes id.0) (IsNamed name)

-- the pool as it was, or with a class more
abbrev pub MayGain : PoolState → PoolState → Type 0
MayGain old new = (new ≡ old) ⊎ ((c : Class) × (new ≡ with_class old c))

-- why a loader stops after an answer, if it does: a failure or want of memory
abbrev pub stop_of : Result (Option ClassId) PoolFault → Option Stop
stop_of (Err fault.Failed) = Some stop.Failed
stop_of (Err fault.Memory) = Some stop.Memory
stop_of (Err (fault.BadClass name why)) = None
stop_of (Err (fault.WrongName name other)) = None
stop_of (Ok found) = None
