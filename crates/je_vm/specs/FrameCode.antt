-- Frames and states as plain data.
use Rattle.std.specs.Prelude.{ℕ, List, refl}
use Rattle.std.specs.Coded.{Coded, code_by, coded×, coded_ℕ, coded_list}
use Rattle.je_machine.specs.Value.{Value}
use Rattle.je_machine.specs.Frame.{Frame}
use Rattle.je_machine.specs.Machine.{State}
use Rattle.je_machine.specs.Outside.{Outside}
use Rattle.je_heap.specs.OutsideCode.{outside_code}
use Rattle.je_heap.specs.ValueCode.{value_code}

abbrev pub frame_code : Coded Frame
frame_code =
    code_by (List Value × List Value) (coded× (coded_list value_code) (coded_list value_code))
    (λ f. (f.stack, f.locals)) (λ p. record { stack = p.0; locals = p.1 }) (λ _. refl)

abbrev pub state_code : Coded State
state_code =
    code_by (ℕ × (Frame × Outside)) (coded× coded_ℕ (coded× frame_code outside_code))
    (λ s. (s.place, (s.frame, s.outside)))
    (λ p. record { place = p.0; frame = p.1.0; outside = p.1.1 }) (λ _. refl)
