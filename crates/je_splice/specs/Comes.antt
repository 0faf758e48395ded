-- A machine's run that comes to what another run came to, under a bound that may fall behind.
use Rattle.std.specs.Prelude.{ℕ, zero, suc, ◌+◌, ◌≤◌, List, [], Option, Some, None, Bool, IsTrue}
use Rattle.je_machine.specs.Value.{Value}
use Rattle.je_machine.specs.Classes.{Classes}
use Rattle.je_machine.specs.Outside.{Outside}
use Rattle.je_machine.specs.Operation.{Program}
use Rattle.je_machine.specs.Frame.{frame_of}
use Rattle.je_machine.specs.Step.{Ending, Outcome}
use Rattle.je_machine.specs.Machine.{State, state_at, machine_step}
use Rattle.je_machine.specs.Slots.{AgreeBelow}
use Rattle.je_splice.specs.Stretch.{Closes, Idles}

-- What the other run may spend while the machine does so many steps: each step, the one that led
-- to it, and at most so many places at which the machine does nothing.
abbrev pub weight : ℕ → ℕ → ℕ
weight most zero = 0
weight most (suc count) = suc (suc most) + weight most count

-- The machine ends so too, with local variables that are the same below the limit.
pub record EndsWith (q : Program) (classes : Classes) (limit most far bound : ℕ) (t : State)
    (ending : Ending) (o : Outcome) : Type 0 where
  pub count : ℕ
  pub locals : List Value
  pub closes : Closes (machine_step q classes) count t ending locals o.outside
  pub same : AgreeBelow limit o.locals locals
  pub near : bound ≤ o.left + weight most count + far

-- The machine shows these events and no others, for as long as the other run had a bound.
pub record IdlesWith (q : Program) (classes : Classes) (most far bound : ℕ) (t : State)
    (o : Outcome) : Type 0 where
  pub least : ℕ
  pub idles : Idles q classes least t o.outside.events
  pub near : bound ≤ weight most least + far

abbrev pub ComesBy : Program → Classes → ℕ → ℕ → ℕ → ℕ → State → Outcome → Option Ending → Type 0
ComesBy q classes limit most far bound t o (Some ending) =
    EndsWith q classes limit most far bound t ending o
ComesBy q classes limit most far bound t o None = IdlesWith q classes most far bound t o

-- the machine's run from the state comes to what another run came to under the bound
abbrev pub Comes : Program → Classes → ℕ → ℕ → ℕ → ℕ → State → Outcome → Type 0
Comes q classes limit most far bound t o = ComesBy q classes limit most far bound t o o.ending

-- what a method does under a bound, by its local variables and the outside
abbrev pub Body : Type 0
Body = ℕ → List Value → Outside → Outcome

-- From its first instruction the program does what the body does, at every bound and with all
-- local variables that pass the test.
pub record Does (q : Program) (classes : Classes) (limit most far : ℕ) (fine : List Value → Bool)
    (body : Body) : Type 0 where
  pub does : (bound : ℕ) (locals own : List Value) (outside : Outside) → IsTrue (fine locals)
      → AgreeBelow limit locals own
      → Comes q classes limit most far bound (state_at 0 (frame_of [] own) outside)
      (body bound locals outside)
