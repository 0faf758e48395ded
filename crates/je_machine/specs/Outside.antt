-- What a method's run shares with the world outside of it: the heap, the events that it caused, and
-- the answers that it gets.
use Rattle.std.specs.Prelude.{ℕ, List, [], ◌∷◌, ◌++◌, Option, Some, None, codes}
use Rattle.je_machine.specs.Value.{Kind, ReferenceKind, Value, Obj, Const, zero_of, admit}
use Rattle.je_machine.specs.Heap.{Heap, allocate, next_object, new_instance}
use Rattle.je_machine.specs.Action.{Action}

-- what the outside sees of an action: its operands, the deepest first, and the heap as it then is
pub record Event : Type 0 where
  pub action : Action
  pub operands : List Value
  pub heap : Heap

-- a call returns a value, or throws a reference
pub data Reply : Type 0 where
  Gives : (value : Value) → Reply
  Throws : (reference : Value) → Reply

-- what a call answers, and the heap that it leaves
pub record Answer : Type 0 where
  pub reply : Reply
  pub heap : Heap

pub record Outside : Type 0 where
  pub heap : Heap
  pub events : List Event
  pub answers : List Answer

-- What an action comes to: a value if it has a result, a throw, or no answer, since all are used
-- up. Then the run waits.
pub data Response : Type 0 where
  Gave : (value : Option Value) (after : Outside) → Response
  Threw : (reference : Value) (after : Outside) → Response
  Waits : (after : Outside) → Response

-- the outside with another heap
abbrev pub with_heap : Heap → Outside → Outside
with_heap heap outside = record outside { heap = heap }

-- an exception of the machine's own: a new object of the class
abbrev pub raise : List ℕ → Outside → Response
raise class outside =
    Threw (next_object outside.heap)
    (with_heap (allocate (new_instance class) outside.heap) outside)

abbrev pub throw_admitted : Value → Outside → Response
throw_admitted (Obj number) outside = Threw (Obj number) outside
throw_admitted (Const content) outside = Threw (Const content) outside
throw_admitted _ outside = raise (codes "java/lang/NullPointerException") outside

-- throws a reference; null, and what is no reference, count as a new NullPointerException
abbrev pub throw_reference : Value → Outside → Response
throw_reference reference outside = throw_admitted (admit ReferenceKind reference) outside

abbrev pub reply_in : Reply → Outside → Response
reply_in (Gives value) outside = Gave (Some value) outside
reply_in (Throws reference) outside = throw_reference reference outside

-- the outside once it has seen the event
abbrev pub with_event : Action → List Value → Outside → Outside
with_event action operands outside =
    record outside {
      events = outside.events
          ++ record { action = action; operands = operands; heap = outside.heap } ∷ [];
    }

-- takes the next answer
abbrev pub next_reply : List Answer → Outside → Response
next_reply [] outside = Waits outside
next_reply (answer ∷ answers) outside =
    reply_in answer.reply (record outside { heap = answer.heap; answers = answers })

-- A call: one event, and then the next answer.
abbrev pub invoke : Action → List Value → Outside → Response
invoke action operands outside = next_reply outside.answers (with_event action operands outside)

abbrev pub value_or_zero : Kind → Reply → Value
value_or_zero kind (Gives value) = admit kind value
value_or_zero kind (Throws reference) = zero_of kind

abbrev pub next_number : Kind → List Answer → Outside → Response
next_number kind [] outside = Waits outside
next_number kind (answer ∷ answers) outside =
    Gave (Some (value_or_zero kind answer.reply)) (record outside { answers = answers })

-- A floating-point operation: one event, and then the value of the next answer, of which a throw
-- counts as zero. The heap stays.
abbrev pub float_operation : Kind → Action → List Value → Outside → Response
float_operation kind action operands outside =
    next_number kind outside.answers (with_event action operands outside)

-- A monitor instruction: one event, and no answer.
abbrev pub monitor_operation : Action → List Value → Outside → Response
monitor_operation action operands outside = Gave None (with_event action operands outside)
