-- What a look at a world answers, and what it leaves.
use Rattle.std.specs.Prelude.{◌≡◌, ◌≤◌, Bool, List, [], ◌∷◌, ◌++◌, ◌⊎◌, if◌then◌else◌}
use Rattle.std.specs.Prelude.{Option, Some, None, Result, Ok, Err, IfSome, IfOk, IsErrOf}
use Rattle.std.specs.Option.{option_map}
use Rattle.std.specs.List.{list_any}
use Rattle.je_base.specs.Count.{HasFault}
use Rattle.je_base.specs.Text.{is_same_text}
use Rattle.je_desc.specs.declared.summary.Summary.{Summary}
use Rattle.je_world.specs.declared.stop.Stop.{Stop}
use Rattle.je_world.specs.declared.stop.Stop.TheVariants.{Failed, Memory}
use Rattle.je_world.specs.declared.stop.WorldStop.{WorldStop}
use Rattle.je_world.specs.declared.stop.WorldStop.TheVariants as world_stop
use Rattle.je_world.specs.Question.{Name, Known, Absent, Broken, IsClass}
use Rattle.je_world.specs.Seen.{Seen}

-- what a look answers: what lies under the name, or why it gave nothing
abbrev pub Answer : Type 0
Answer = Result Known Stop

-- that answer, from the result of `look`
abbrev pub known_of :
    {R : Type 0} → (R → Summary) → Result (Option R) WorldStop → Answer
known_of summary (Ok None) = Ok Absent
known_of summary (Ok (Some class)) = Ok (IsClass (summary class))
known_of summary (Err world_stop.Broken) = Ok Broken
known_of summary (Err world_stop.Failed) = Err Failed
known_of summary (Err world_stop.Memory) = Err Memory

-- the name is one of these
abbrev pub is_listed : Name → List Name → Bool
is_listed name names = list_any (λ other. is_same_text other name) names

-- the names with this one behind them, unless it stands there
abbrev pub listed : Name → List Name → List Name
listed name names = if is_listed name names then names else names ++ name ∷ []

-- The name is listed. Where memory ran out it may be missing.
abbrev pub IsListed : Name → Answer → Option (List Name) → Option (List Name) → Type 0
IsListed name (Err Memory) old new = (new ≡ old) ⊎ (new ≡ option_map (listed name) old)
IsListed name _ old new = new ≡ option_map (listed name) old

-- the stop after an answer: the first that was a failure or want of memory
abbrev pub stop_after : Option Stop → Answer → Option Stop
stop_after (Some first) answer = Some first
stop_after None (Ok known) = None
stop_after None (Err why) = Some why

-- one look, from what was shown before it to what is shown after it
pub record Looks (name : Name) (old : Seen) (answer : Answer) (new : Seen) : Type 0 where
  -- It answers by the map and leaves it, and whether it is told.
  pub told : new.told ≡ old.told
  pub known : IfOk answer (λ known. IfSome old.told (λ map. map name ≡ known))
  -- It lists the name.
  pub asked : IsListed name answer old.asked new.asked
  -- The first failure or want of memory is the stop from then on.
  pub stop : new.stop ≡ stop_after old.stop answer
  -- It fails only with a fault on record.
  pub faults : old.faults ≤ new.faults
  pub failed : IsErrOf answer Failed → HasFault old.faults new.faults
