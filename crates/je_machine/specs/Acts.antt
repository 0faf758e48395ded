-- What can be said of every action.
use Rattle.std.specs.Prelude.{◌≡◌, List, [], ◌∷◌, ◌++◌, Option, Some, None, Bool, true, false, ◌&&◌}
use Rattle.std.specs.Prelude.{IsTrue}
use Rattle.je_machine.specs.Content.{is_loadable}
use Rattle.je_machine.specs.Value.{Kind, Value, Obj, Const, is_of_kind}
use Rattle.je_machine.specs.Heap.{Heap}
use Rattle.je_machine.specs.Action.{Action, Invoke, ArrayLength}
use Rattle.je_machine.specs.Outside.{Outside, Answer, Event, Response, Gave, Threw, Waits}

-- events are only added, and answers are only taken from the front
pub record Keeps (before after : Outside) : Type 0 where
  pub events : (more : List Event) × (after.events ≡ before.events ++ more)
  pub answers : (taken : List Answer) × (before.answers ≡ taken ++ after.answers)

-- a reference that is not null
abbrev pub is_reference : Value → Bool
is_reference (Obj number) = true
is_reference (Const content) = is_loadable content
is_reference _ = false

-- a result of the kind, where there is to be one
abbrev pub is_result : Option Kind → Option Value → Bool
is_result (Some kind) (Some value) = is_of_kind kind value
is_result None None = true
is_result _ _ = false

-- as many values as kinds, each of its kind
abbrev pub are_of_kinds : List Kind → List Value → Bool
are_of_kinds [] [] = true
are_of_kinds (kind ∷ kinds) (value ∷ values) = is_of_kind kind value && are_of_kinds kinds values
are_of_kinds _ _ = false

-- what is given, if anything is, is a result of the kind
abbrev pub is_right : Option Kind → Response → Bool
is_right kind (Gave value after) = is_result kind value
is_right kind _ = true

-- what the action gives is the machine's own: it is no call, nor the length of an array
abbrev pub is_own : Action → Bool
is_own (Invoke sort method types) = false
is_own ArrayLength = false
is_own _ = true

-- what a response leaves of the outside before it, and what it throws
abbrev pub HasKept : Outside → Response → Type 0
HasKept before (Gave value after) = Keeps before after
HasKept before (Threw reference after) = Keeps before after × IsTrue (is_reference reference)
HasKept before (Waits after) = Keeps before after

-- a result, if there is one, is of the kind
abbrev pub GivesKind : Option Kind → Response → Type 0
GivesKind kind (Gave value after) = IsTrue (is_result kind value)
GivesKind kind _ = Unit {0}

-- the outside that saw an action, and took an answer with this heap, of which these are left
abbrev pub after_call : Action → List Value → Outside → Heap → List Answer → Outside
after_call action operands before heap answers = record {
  heap = heap;
  events = before.events
      ++ record { action = action; operands = operands; heap = before.heap } ∷ [];
  answers = answers;
}
