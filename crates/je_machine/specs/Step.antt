-- Runs: steps over any type of states, until one stops or a bound is used up.
use Rattle.std.specs.Prelude.{◌≡◌, ℕ, zero, suc, ◌≤◌, List, Option, Some, None}
use Rattle.je_machine.specs.Value.{Value}
use Rattle.je_machine.specs.Outside.{Outside}

-- how a method ends
pub data Ending : Type 0 where
  Returned : (result : Option Value) → Ending
  Thrown : (reference : Value) → Ending

-- what a run has come to: how it ended, or none where it goes on, what is left of the bound, and
-- the locals and the outside as they are then
pub record Outcome : Type 0 where
  pub ending : Option Ending
  pub left : ℕ
  pub locals : List Value
  pub outside : Outside

-- A step goes on in another state with this bound left, or stops: the method ended, the bound is
-- used up, or no answer comes.
pub data Progress (S : Type 0) : Type 0 where
  Goes : (left : ℕ) (state : S) → Progress S
  Stops : (outcome : Outcome) → Progress S

-- What is done from a bound and a state, and the locals and the outside of a state. A step that
-- goes on spends at least one of the bound.
pub record Step (S : Type 0) : Type 0 where
  pub take : ℕ → S → Progress S
  pub locals : S → List Value
  pub outside : S → Outside

abbrev pub goes_on : {S : Type 0} → ℕ → List Value → Outside → Progress S
goes_on left locals outside =
    Stops (record { ending = None; left = left; locals = locals; outside = outside })

abbrev pub ends : {S : Type 0} → Ending → ℕ → List Value → Outside → Progress S
ends ending left locals outside =
    Stops (record { ending = Some ending; left = left; locals = locals; outside = outside })

abbrev pub advance : {S : Type 0} → (ℕ → S → Outcome) → Progress S → Outcome
advance next (Goes left state) = next left state
advance next (Stops outcome) = outcome

-- what has neither ended nor gone on
abbrev pub paused : {S : Type 0} → Step S → ℕ → S → Outcome
paused step left state =
    record { ending = None; left = left; locals = step.locals state; outside = step.outside state }

-- Steps until one stops. There is a turn for each unit of the bound, so the turns never end before
-- the bound does.
abbrev pub iterate : {S : Type 0} → Step S → ℕ → ℕ → S → Outcome
iterate step zero bound state = paused step bound state
iterate step (suc turns) bound state = advance (iterate step turns) (step.take bound state)

abbrev pub iterate_all : {S : Type 0} → Step S → ℕ → S → Outcome
iterate_all step bound state = iterate step bound bound state

-- ---- stretches of a run

-- at every bound the step goes from the one state to the other, for one of the bound
abbrev pub Takes : {S : Type 0} → Step S → S → S → Type 0
Takes step s t = (left : ℕ) → step.take (suc left) s ≡ Goes left t

-- so many such steps, one after the other
abbrev pub Chain : {S : Type 0} → Step S → ℕ → S → S → Type 0
Chain step zero s t = s ≡ t
Chain {S} step (suc count) s t = (u : S) × Takes step s u × Chain step count u t

-- what the run from the second state comes to under any bound, the run from the first comes to
-- under some bound that is not less
abbrev pub ComesTo : {S : Type 0} → Step S → S → S → Type 0
ComesTo step s t =
    (n : ℕ) → (m : ℕ) × (n ≤ m) × (iterate_all step m s ≡ iterate_all step n t)
