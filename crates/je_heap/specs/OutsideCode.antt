-- Events, answers and the outside as plain data.
use Rattle.std.specs.Prelude.{◌≡◌, ◌⊎◌, List, refl}
use Rattle.std.specs.Coded.{Coded, code_by, coded×, coded⊎, coded_list}
use Rattle.je_machine.specs.Action.{Action}
use Rattle.je_machine.specs.Heap.{Heap}
use Rattle.je_machine.specs.Outside.{Event, Reply, Gives, Throws, Answer, Outside}
use Rattle.je_machine.specs.Value.{Value}
use Rattle.je_heap.specs.Codes.{heap_code}
use Rattle.je_heap.specs.ValueCode.{value_code}
use Rattle.je_value.specs.ActionCode.{action_code}
use mathlib.Core.Logic.{inl, inr}

abbrev pub event_code : Coded Event
event_code =
    code_by (Action × (List Value × Heap))
    (coded× action_code (coded× (coded_list value_code) heap_code))
    (λ e. (e.action, (e.operands, e.heap)))
    (λ p. record { action = p.0; operands = p.1.0; heap = p.1.1 }) (λ _. refl)

abbrev pub reply_parts : Reply → Value ⊎ Value
reply_parts (Gives value) = inl value
reply_parts (Throws reference) = inr reference

abbrev pub reply_back : Value ⊎ Value → Reply
reply_back (inl value) = Gives value
reply_back (inr reference) = Throws reference

pub reply_is_back : (r : Reply) → reply_back (reply_parts r) ≡ r
reply_is_back (Gives value) = refl
reply_is_back (Throws reference) = refl

abbrev pub reply_code : Coded Reply
reply_code =
    code_by (Value ⊎ Value) (coded⊎ value_code value_code) reply_parts reply_back reply_is_back

abbrev pub answer_code : Coded Answer
answer_code =
    code_by (Reply × Heap) (coded× reply_code heap_code) (λ a. (a.reply, a.heap))
    (λ p. record { reply = p.0; heap = p.1 }) (λ _. refl)

abbrev pub outside_code : Coded Outside
outside_code =
    code_by (Heap × (List Event × List Answer))
    (coded× heap_code (coded× (coded_list event_code) (coded_list answer_code)))
    (λ o. (o.heap, (o.events, o.answers)))
    (λ p. record { heap = p.0; events = p.1.0; answers = p.1.1 }) (λ _. refl)
