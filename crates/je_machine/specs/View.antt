-- What an observer sees of a run.
use Rattle.std.specs.Prelude.{◌≡◌, ℕ, ◌+◌, ◌<◌, ◌≤◌, List, ◌++◌, Option, None, IsSome, option_map}
use Rattle.je_machine.specs.Heap.{Heap}
use Rattle.je_machine.specs.Outside.{Event, Outside}
use Rattle.je_machine.specs.Step.{Ending, Outcome, Progress, Goes, Stops, Step}

-- the events so far, and once the run has ended how, and with which heap
pub record View : Type 0 where
  pub events : List Event
  pub end : Option (Ending × Heap)

abbrev pub view_of : Outcome → View
view_of outcome =
    record {
      events = outcome.outside.events;
      end = option_map (λ ending. (ending, outcome.outside.heap)) outcome.ending;
    }

-- The events of one view begin those of the other. Once it has ended the other is the same.
pub record IsViewPrefix (v w : View) : Type 0 where
  pub begins : (more : List Event) × (w.events ≡ v.events ++ more)
  pub final : IsSome v.end → w ≡ v

-- ---- steps whose runs a longer bound only extends

-- the events of one moment begin those of a later one
abbrev pub BeginsEvents : Outside → Outside → Type 0
BeginsEvents old new = (more : List Event) × (new.events ≡ old.events ++ more)

abbrev pub outside_after : {S : Type 0} → Step S → Progress S → Outside
outside_after step (Goes left state) = step.outside state
outside_after step (Stops outcome) = outcome.outside

-- the outcome with this much more of the bound left
abbrev pub with_more : ℕ → Outcome → Outcome
with_more more o = record o { left = o.left + more }

-- A step that goes on spends some of the bound, and with more of it left does the same and leaves
-- as much more. One that ends the method does so with more left too. One that stopped otherwise
-- shows no less with more left. Events are only added.
pub record IsSteady {S : Type 0} (step : Step S) : Type 0 where
  pub spends : (bound left : ℕ) (s t : S) → step.take bound s ≡ Goes left t → left < bound
  pub goes_on : (bound left more : ℕ) (s t : S) → step.take bound s ≡ Goes left t
      → step.take (bound + more) s ≡ Goes (left + more) t
  pub ends : (bound more : ℕ) (s : S) (o : Outcome) → step.take bound s ≡ Stops o → IsSome o.ending
      → step.take (bound + more) s ≡ Stops (with_more more o)
  pub adds : (bound : ℕ) (s : S) →
      BeginsEvents (step.outside s) (outside_after step (step.take bound s))
  pub waits : (bound more : ℕ) (s : S) (o : Outcome) → step.take bound s ≡ Stops o → o.ending ≡ None
      → BeginsEvents o.outside (outside_after step (step.take (bound + more) s))

-- ---- two runs that show the same

-- What the first run shows under a bound the second shows under some bound, which is less by at
-- most the lag.
pub record Follows (old new : ℕ → Outcome) (lag n : ℕ) : Type 0 where
  pub bound : ℕ
  pub near : n ≤ bound + lag
  pub same : view_of (old n) ≡ view_of (new bound)

-- what one run shows under any bound the other shows, or more, under some bound
abbrev pub Shows : (ℕ → Outcome) → (ℕ → Outcome) → Type 0
Shows run other = (n : ℕ) → (m : ℕ) × IsViewPrefix (view_of (run n)) (view_of (other m))

-- each run shows what the other does
pub record AgreeingRuns (old new : ℕ → Outcome) : Type 0 where
  pub shows : Shows old new
  pub shows_only : Shows new old
