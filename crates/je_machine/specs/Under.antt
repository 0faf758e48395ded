-- What an instruction takes from the stack, and what lies under it (JVMS 2.6.2).
use Rattle.std.specs.Prelude.{ℕ, zero, suc, ◌-◌, ◌≤◌, List, [], ◌∷◌, ◌++◌, length, Some, Bool, true}
use Rattle.std.specs.Prelude.{false, IsTrue}
use Rattle.je_machine.specs.Value.{Value, places_of}
use Rattle.je_machine.specs.Condition.{condition_operands}
use Rattle.je_machine.specs.Action.{operands_of}
use Rattle.je_machine.specs.Operation.{Basic, Drop, Copy, Swap, Act, Throw, Operation, Do, Store}
use Rattle.je_machine.specs.Operation.{Branch, Switch, Return}
use Rattle.je_machine.specs.Frame.{Flow, Falls, Jumps, Leaves, Raises, Halts, frame_of}
use Rattle.je_machine.specs.Frame.{under_places}

-- the values fill so many places
abbrev pub has_places : ℕ → List Value → Bool
has_places zero stack = true
has_places (suc places) [] = false
has_places (suc places) (value ∷ stack) = has_places (suc places - places_of value) stack

abbrev pub HasBasicOperands : Basic → List Value → Type 0
HasBasicOperands (Drop places) stack = IsTrue (has_places places stack)
HasBasicOperands (Copy places deep) stack =
    IsTrue (has_places places stack) × IsTrue (has_places deep (under_places places stack))
HasBasicOperands Swap stack = 2 ≤ length stack
HasBasicOperands (Act action) stack = length (operands_of action) ≤ length stack
HasBasicOperands Throw stack = 1 ≤ length stack
HasBasicOperands _ stack = Unit {0}

-- the stack has what the operation takes
abbrev pub HasOperands : Operation → List Value → Type 0
HasOperands (Do basic) stack = HasBasicOperands basic stack
HasOperands (Store kind slot) stack = 1 ≤ length stack
HasOperands (Branch condition target) stack = length (condition_operands condition) ≤ length stack
HasOperands (Switch cases fallback) stack = 1 ≤ length stack
HasOperands (Return (Some kind)) stack = 1 ≤ length stack
HasOperands _ stack = Unit {0}

-- the flow with these values under its stack
abbrev pub over : List Value → Flow → Flow
over under (Falls frame outside) = Falls (frame_of (frame.stack ++ under) frame.locals) outside
over under (Jumps target frame outside) =
    Jumps target (frame_of (frame.stack ++ under) frame.locals) outside
over under (Leaves result outside) = Leaves result outside
over under (Raises reference outside) = Raises reference outside
over under (Halts outside) = Halts outside
