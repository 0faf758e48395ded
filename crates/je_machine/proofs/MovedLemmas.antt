-- Performing an operation with its targets moved is performing it and moving the flow.
use Rattle.std.proofs.Common.{◌≡◌, ℕ, List, [], ◌∷◌, Option, Some, None, Bool, true, false, refl, ap}
use Rattle.std.specs.Prelude.{ℤ, map, cond, option_map, unwrap_or}
use Rattle.std.specs.List.{find}
use Rattle.std.specs.Ordering.{int_eq}
use Rattle.je_machine.specs.Value.{Value, number_of}
use Rattle.je_machine.specs.Classes.{Classes}
use Rattle.je_machine.specs.Outside.{Outside}
use Rattle.je_machine.specs.Operation.{Operation, Do, Load, Store, Increment, Branch, Goto, Switch, Return}
use Rattle.je_machine.specs.Frame.{Frame, Stacked, Stands, Breaks, Stalls, perform_basic, frame_of, flow_of, branch, chosen_case, perform, top, below, Jumps}
use Rattle.je_machine.specs.Moved.{retargeted, moved_flow}

stays : (to : ℕ → ℕ) (locals : List Value) (s : Stacked) → flow_of locals s ≡ moved_flow to (flow_of locals s)
stays to locals (Stands stack o) = refl
stays to locals (Breaks v o) = refl
stays to locals (Stalls o) = refl

branch_moved : (to : ℕ → ℕ) (b : Bool) (target : ℕ) (frame : Frame) (o : Outside) → branch b (to target) frame o ≡ moved_flow to (branch b target frame o)
branch_moved to true target frame o = refl
branch_moved to false target frame o = refl

-- the first case, which may be the one
first_case : (to : ℕ → ℕ) (fallback target : ℕ) (key : ℤ) (b : Bool) (rest : Option (ℤ × ℕ)) (rest' : Option (ℤ × ℕ)) (k : ℤ)
    → unwrap_or (option_map (λ c. c.1) rest') (to fallback) ≡ to (unwrap_or (option_map (λ c. c.1) rest) fallback)
    → unwrap_or (option_map (λ c. c.1) (cond b (Some (k, to target)) rest')) (to fallback)
    ≡ to (unwrap_or (option_map (λ c. c.1) (cond b (Some (k, target)) rest)) fallback)
first_case to fallback target key true rest rest' k e = refl
first_case to fallback target key false rest rest' k e = e

case_moved : (to : ℕ → ℕ) (cases : List (ℤ × ℕ)) (fallback : ℕ) (key : ℤ)
    → chosen_case (map (λ c. (c.0, to c.1)) cases) (to fallback) key ≡ to (chosen_case cases fallback key)
case_moved to [] fallback key = refl
case_moved to (c ∷ cases) fallback key =
    first_case to fallback c.1 key (int_eq c.0 key) (find (λ d. int_eq d.0 key) cases)
    (find (λ d. int_eq d.0 key) (map (λ d. (d.0, to d.1)) cases)) c.0 (case_moved to cases fallback key)

pub perform_retargeted : (classes : Classes) (to : ℕ → ℕ) (op : Operation) (frame : Frame) (o : Outside)
    → perform classes (retargeted to op) frame o ≡ moved_flow to (perform classes op frame o)
perform_retargeted classes to (Do b) frame o = stays to frame.locals (perform_basic classes b frame.stack o)
perform_retargeted classes to (Load kind slot) frame o = refl
perform_retargeted classes to (Store kind slot) frame o = refl
perform_retargeted classes to (Increment slot by) frame o = refl
perform_retargeted classes to (Branch c target) frame o = branch_moved to _ target _ o
perform_retargeted classes to (Goto target) frame o = refl
perform_retargeted classes to (Switch cases fallback) frame o =
    ap (λ (target : ℕ). Jumps target (frame_of (below frame.stack) frame.locals) o) (case_moved to cases fallback (number_of (top frame.stack)))
perform_retargeted classes to (Return None) frame o = refl
perform_retargeted classes to (Return (Some kind)) frame o = refl
