-- A run in which each answer leaves the heap as it is.
use Rattle.std.specs.Prelude.{ℕ, List, [], ◌∷◌}
use Rattle.je_machine.specs.Classes.{Classes}
use Rattle.je_machine.specs.Heap.{Heap}
use Rattle.je_machine.specs.Machine.{State, take_step, start_of}
use Rattle.je_machine.specs.Operation.{Program}
use Rattle.je_machine.specs.Outside.{Answer, Outside}
use Rattle.je_machine.specs.Step.{Step, Outcome, iterate_all}
use Rattle.je_machine.specs.Value.{Value}

-- the next answer leaves this heap
abbrev pub kept_answers : Heap → List Answer → List Answer
kept_answers heap [] = []
kept_answers heap (answer ∷ answers) = record { reply = answer.reply; heap = heap } ∷ answers

abbrev pub kept_outside : Outside → Outside
kept_outside outside = record outside { answers = kept_answers outside.heap outside.answers }

abbrev pub kept : State → State
kept s = record s { outside = kept_outside s.outside }

-- the machine's step, before which the next answer is given the heap as it is
abbrev pub kept_step : Program → Classes → Step State
kept_step program classes =
    record {
      take = λ bound s. take_step program classes bound (kept s);
      locals = λ s. s.frame.locals;
      outside = λ s. s.outside;
    }

-- nothing is known of other classes
abbrev pub no_classes : Classes
no_classes = record { below = []; holders = [] }

-- at most so many instructions of the program, from its first
abbrev pub kept_run : Program → List Value → Heap → List Answer → ℕ → Outcome
kept_run program arguments heap answers bound =
    iterate_all (kept_step program no_classes) bound (start_of program arguments heap answers)
