-- An instruction whose targets are moved (JVMS 6.5), and an entry of the exception table.
use Rattle.std.specs.Prelude.{ℕ, map}
use Rattle.je_machine.specs.Operation.{Operation, Do, Load, Store, Increment, Branch, Goto, Switch}
use Rattle.je_machine.specs.Operation.{Return, Handler}
use Rattle.je_machine.specs.Frame.{Flow, Falls, Jumps, Leaves, Raises, Halts}

-- the operation with its targets under a map
abbrev pub retargeted : (ℕ → ℕ) → Operation → Operation
retargeted to (Do basic) = Do basic
retargeted to (Load kind slot) = Load kind slot
retargeted to (Store kind slot) = Store kind slot
retargeted to (Increment slot by) = Increment slot by
retargeted to (Branch condition target) = Branch condition (to target)
retargeted to (Goto target) = Goto (to target)
retargeted to (Switch cases fallback) = Switch (map (λ c. (c.0, to c.1)) cases) (to fallback)
retargeted to (Return kind) = Return kind

-- the flow with its target under a map
abbrev pub moved_flow : (ℕ → ℕ) → Flow → Flow
moved_flow to (Falls frame outside) = Falls frame outside
moved_flow to (Jumps target frame outside) = Jumps (to target) frame outside
moved_flow to (Leaves result outside) = Leaves result outside
moved_flow to (Raises reference outside) = Raises reference outside
moved_flow to (Halts outside) = Halts outside

-- an entry with its range under one map and its target under another
abbrev pub moved_handler : (ℕ → ℕ) → (ℕ → ℕ) → Handler → Handler
moved_handler range to h =
    record {
      start = range h.start;
      end = range h.end;
      target = to h.target;
      catch_class =
          h.catch_class;
    }
