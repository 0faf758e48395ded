-- Stretches of a run: to the end of a method, and to where nothing more is shown.
use Rattle.std.specs.Prelude.{◌≡◌, ℕ, suc, ◌≤◌, ◌⊎◌, List, Some, slice_get}
use Rattle.je_machine.specs.Value.{Value}
use Rattle.je_machine.specs.Classes.{Classes}
use Rattle.je_machine.specs.Outside.{Event, Outside}
use Rattle.je_machine.specs.Operation.{Operation, Program}
use Rattle.je_machine.specs.Frame.{Halts, perform}
use Rattle.je_machine.specs.Step.{Step, Ending, Chain, ends}
use Rattle.je_machine.specs.Machine.{State, machine_step}

-- After so many steps the next one ends the method, with these local variables and outside.
pub record Closes {S : Type 0} (step : Step S) (count : ℕ) (t : S) (ending : Ending)
    (locals : List Value) (outside : Outside) : Type 0 where
  pub last : S
  pub chain : Chain step count t last
  pub closes : (left : ℕ) → step.take (suc left) last ≡ ends ending left locals outside

-- The instruction at the state waits for an answer, once these events were caused.
pub record Waits (q : Program) (classes : Classes) (t : State) (events : List Event) : Type 0 where
  pub operation : Operation
  pub stands : slice_get q.operations t.place ≡ Some operation
  pub outside : Outside
  pub halts : perform classes operation t.frame t.outside ≡ Halts outside
  pub same : outside.events ≡ events

-- The run comes to a state with these events and no others: after so many steps at the least, or
-- it waits there.
pub record Idles (q : Program) (classes : Classes) (least : ℕ) (t : State) (events : List Event)
    : Type 0 where
  pub count : ℕ
  pub last : State
  pub chain : Chain (machine_step q classes) count t last
  pub rest : ((least ≤ count) × (last.outside.events ≡ events)) ⊎ Waits q classes last events
