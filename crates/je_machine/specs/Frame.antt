-- The operand stack and the local variables, and what an instruction does with them (JVMS 2.6).
use Rattle.std.specs.Prelude.{ℕ, zero, suc, ◌-◌, ℤ, pos, List, [], ◌∷◌, ◌++◌, length, Option, Some}
use Rattle.std.specs.Prelude.{None, unwrap_or, option_map, Bool, true, false}
use Rattle.std.specs.List.{find}
use Rattle.std.specs.Ordering.{int_eq}
use Rattle.std.specs.Int.{w32, int_wrapping_add}
use Rattle.je_machine.specs.Value.{IntKind, Value, Int, Null, admit, number_of, places_of, value_at}
use Rattle.je_machine.specs.Classes.{Classes}
use Rattle.je_machine.specs.Condition.{condition_operands, is_met}
use Rattle.je_machine.specs.Action.{operands_of}
use Rattle.je_machine.specs.Outside.{Outside, Response, Gave, Threw, Waits, throw_reference}
use Rattle.je_machine.specs.Acting.{act}
use Rattle.je_machine.specs.Operation.{Basic, Nop, Push, Drop, Copy, Swap, Act, Throw, Operation}
use Rattle.je_machine.specs.Operation.{Do, Load, Store, Increment, Branch, Goto, Switch, Return}

-- the stack, whose top is the head of the list, and the local variables
pub record Frame : Type 0 where
  pub stack : List Value
  pub locals : List Value

-- ---- the stack: total, and a long or double is one value

-- Null from nothing
abbrev pub top : List Value → Value
top [] = Null
top (value ∷ stack) = value

abbrev pub below : List Value → List Value
below [] = []
below (value ∷ stack) = stack

-- so many values from the top, the deepest first; and what is under them
abbrev pub popped : ℕ → List Value → List Value
popped zero stack = []
popped (suc count) stack = popped count (below stack) ++ top stack ∷ []

abbrev pub under : ℕ → List Value → List Value
under zero stack = stack
under (suc count) stack = under count (below stack)

-- the values in so many places from the top, the top first; and what is under them
abbrev pub top_places : ℕ → List Value → List Value
top_places zero stack = []
top_places (suc places) [] = []
top_places (suc places) (value ∷ stack) = value ∷ top_places (suc places - places_of value) stack

abbrev pub under_places : ℕ → List Value → List Value
under_places zero stack = stack
under_places (suc places) [] = []
under_places (suc places) (value ∷ stack) = under_places (suc places - places_of value) stack

abbrev pub copied : ℕ → ℕ → List Value → List Value
copied places deep stack =
    let first = top_places places stack in
    let rest = under_places places stack in
    first ++ (top_places deep rest ++ (first ++ under_places deep rest))

abbrev pub push : Option Value → List Value → List Value
push None stack = stack
push (Some value) stack = value ∷ stack

-- ---- local variables: total, by their slots

-- Int 0 where nothing was written
abbrev pub local_at : List Value → ℕ → Value
local_at locals slot = value_at locals slot

-- One slot is written, of a long or double too. Slots that nothing was written to are Int 0.
abbrev pub with_local : List Value → ℕ → Value → List Value
with_local [] zero value = value ∷ []
with_local [] (suc slot) value = Int (pos 0) ∷ with_local [] slot value
with_local (old ∷ locals) zero value = value ∷ locals
with_local (old ∷ locals) (suc slot) value = old ∷ with_local locals slot value

-- the low 32 bits of the sum
abbrev pub incremented : ℤ → Value → Value
incremented by value =
    admit IntKind (Int (int_wrapping_add w32 (number_of (admit IntKind value)) by))

-- ---- one instruction

-- what a basic operation comes to: another stack, a throw, or a wait
pub data Stacked : Type 0 where
  Stands : (stack : List Value) (outside : Outside) → Stacked
  Breaks : (reference : Value) (outside : Outside) → Stacked
  Stalls : (outside : Outside) → Stacked

abbrev pub stacked : List Value → Response → Stacked
stacked rest (Gave value after) = Stands (push value rest) after
stacked rest (Threw reference after) = Breaks reference after
stacked rest (Waits after) = Stalls after

abbrev pub perform_basic : Classes → Basic → List Value → Outside → Stacked
perform_basic classes Nop stack outside = Stands stack outside
perform_basic classes (Push value) stack outside = Stands (value ∷ stack) outside
perform_basic classes (Drop places) stack outside = Stands (under_places places stack) outside
perform_basic classes (Copy places deep) stack outside = Stands (copied places deep stack) outside
perform_basic classes Swap stack outside =
    Stands (top (below stack) ∷ top stack ∷ below (below stack)) outside
perform_basic classes (Act action) stack outside =
    let count = length (operands_of action) in
    stacked (under count stack) (act classes action (popped count stack) outside)
perform_basic classes Throw stack outside =
    stacked (below stack) (throw_reference (top stack) outside)

-- Where an instruction leads: to the next one, to a target, out of the method with a result if it
-- has one, to a handler or out by a throw, or nowhere as long as no answer comes.
pub data Flow : Type 0 where
  Falls : (frame : Frame) (outside : Outside) → Flow
  Jumps : (target : ℕ) (frame : Frame) (outside : Outside) → Flow
  Leaves : (result : Option Value) (outside : Outside) → Flow
  Raises : (reference : Value) (outside : Outside) → Flow
  Halts : (outside : Outside) → Flow

abbrev pub frame_of : List Value → List Value → Frame
frame_of stack locals = record { stack = stack; locals = locals }

abbrev pub flow_of : List Value → Stacked → Flow
flow_of locals (Stands stack outside) = Falls (frame_of stack locals) outside
flow_of locals (Breaks reference outside) = Raises reference outside
flow_of locals (Stalls outside) = Halts outside

abbrev pub branch : Bool → ℕ → Frame → Outside → Flow
branch true target frame outside = Jumps target frame outside
branch false target frame outside = Falls frame outside

-- the target of the first case of this key
abbrev pub chosen_case : List (ℤ × ℕ) → ℕ → ℤ → ℕ
chosen_case cases fallback key =
    unwrap_or (option_map (λ c. c.1) (find (λ c. int_eq c.0 key) cases)) fallback

abbrev pub perform : Classes → Operation → Frame → Outside → Flow
perform classes (Do basic) frame outside =
    flow_of frame.locals (perform_basic classes basic frame.stack outside)
perform classes (Load kind slot) frame outside =
    Falls (frame_of (local_at frame.locals slot ∷ frame.stack) frame.locals) outside
perform classes (Store kind slot) frame outside =
    Falls (frame_of (below frame.stack) (with_local frame.locals slot (top frame.stack))) outside
perform classes (Increment slot by) frame outside =
    Falls (frame_of frame.stack
    (with_local frame.locals slot (incremented by (local_at frame.locals slot)))) outside
perform classes (Branch condition target) frame outside =
    let count = length (condition_operands condition) in
    branch (is_met condition (popped count frame.stack)) target
    (frame_of (under count frame.stack) frame.locals) outside
perform classes (Goto target) frame outside = Jumps target frame outside
perform classes (Switch cases fallback) frame outside =
    Jumps (chosen_case cases fallback (number_of (top frame.stack)))
    (frame_of (below frame.stack) frame.locals) outside
perform classes (Return None) frame outside = Leaves None outside
perform classes (Return (Some kind)) frame outside = Leaves (Some (top frame.stack)) outside
