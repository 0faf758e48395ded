-- The machine: what a program does in at most so many steps (JVMS 2.6, 2.10 and 6.5).
use Rattle.std.specs.Prelude.{ℕ, zero, suc, pos, List, [], ◌∷◌, ◌++◌, Option, Some, None}
use Rattle.std.specs.Prelude.{option_map, slice_get, Bool, true, ◌&&◌, nat_lt, nat_le}
use Rattle.std.specs.List.{find}
use Rattle.je_machine.specs.Value.{Kind, LongKind, DoubleKind, Value, Int, zero_of, admit}
use Rattle.je_machine.specs.Heap.{Heap}
use Rattle.je_machine.specs.Classes.{Classes, is_instance}
use Rattle.je_machine.specs.Operation.{Operation, Handler, Program}
use Rattle.je_machine.specs.Outside.{Answer, Outside}
use Rattle.je_machine.specs.Frame.{Frame, Flow, Falls, Jumps, Leaves, Raises, Halts, frame_of}
use Rattle.je_machine.specs.Frame.{perform}
use Rattle.je_machine.specs.Step.{Outcome, Progress, Goes, Step, Returned, Thrown, goes_on, ends}
use Rattle.je_machine.specs.Step.{iterate_all}

-- the index of the next instruction, the frame, and the outside
pub record State : Type 0 where
  pub place : ℕ
  pub frame : Frame
  pub outside : Outside

abbrev pub state_at : ℕ → Frame → Outside → State
state_at place frame outside = record { place = place; frame = frame; outside = outside }

-- ---- exceptions (JVMS 2.10)

-- where a throw goes, by the heap and what is thrown: a target, or none where it leaves the method
abbrev pub Outer : Type 0
Outer = Heap → Value → Option ℕ

abbrev pub catches : Classes → Heap → Value → Option (List ℕ) → Bool
catches classes heap reference None = true
catches classes heap reference (Some class) = is_instance classes heap reference class

abbrev pub covers : ℕ → Handler → Bool
covers place handler = nat_le handler.start place && nat_lt place handler.end

-- the handler covers the place and its class fits
abbrev pub is_handler_of : Classes → Heap → Value → ℕ → Handler → Bool
is_handler_of classes heap reference place handler =
    covers place handler && catches classes heap reference handler.catch_class

-- the first handler that covers the place and fits
abbrev pub catcher : List Handler → Classes → ℕ → Outer
catcher handlers classes place heap reference =
    option_map (λ (h : Handler). h.target)
    (find (is_handler_of classes heap reference place) handlers)

-- the exception alone is on the stack of a handler
abbrev pub enter_handler : Option ℕ → ℕ → Value → List Value → Outside → Progress State
enter_handler (Some target) left reference locals outside =
    Goes left (state_at target (frame_of (reference ∷ []) locals) outside)
enter_handler None left reference locals outside = ends (Thrown reference) left locals outside

-- ---- the machine's step

-- what follows an instruction, by the place behind it, where throws go, what is left of the bound,
-- and the locals before it
abbrev pub follow : ℕ → Outer → ℕ → List Value → Flow → Progress State
follow next outer left locals (Falls frame outside) = Goes left (state_at next frame outside)
follow next outer left locals (Jumps target frame outside) =
    Goes left (state_at target frame outside)
follow next outer left locals (Leaves result outside) = ends (Returned result) left locals outside
follow next outer left locals (Raises reference outside) =
    enter_handler (outer outside.heap reference) left reference locals outside
follow next outer left locals (Halts outside) = goes_on left locals outside

-- outside of the code nothing happens at any bound
abbrev pub perform_at : Classes → ℕ → Outer → ℕ → Option Operation → State → Progress State
perform_at classes next outer left (Some operation) s =
    follow next outer left s.frame.locals (perform classes operation s.frame s.outside)
perform_at classes next outer left None s = goes_on left s.frame.locals s.outside

abbrev pub take_step : Program → Classes → ℕ → State → Progress State
take_step program classes zero s = goes_on zero s.frame.locals s.outside
take_step program classes (suc left) s =
    perform_at classes (suc s.place) (catcher program.handlers classes s.place) left
    (slice_get program.operations s.place) s

abbrev pub machine_step : Program → Classes → Step State
machine_step program classes =
    record {
      take = take_step program classes;
      locals = λ s. s.frame.locals;
      outside =
          λ s. s.outside;
    }

-- ---- the start of a method

-- the places of a local variable: a long and a double take two, of which the second is not read
-- (JVMS 2.6.1)
abbrev pub places : Kind → Value → List Value
places LongKind value = value ∷ Int (pos 0) ∷ []
places DoubleKind value = value ∷ Int (pos 0) ∷ []
places _ value = value ∷ []

-- the arguments in their local variables; one that is not given counts as zero
abbrev pub enter : List Kind → List Value → List Value
enter [] arguments = []
enter (kind ∷ kinds) [] = places kind (zero_of kind) ++ enter kinds []
enter (kind ∷ kinds) (argument ∷ arguments) =
    places kind (admit kind argument) ++ enter kinds arguments

abbrev pub start_of : Program → List Value → Heap → List Answer → State
start_of program arguments heap answers =
    state_at 0 (frame_of [] (enter program.parameters arguments))
    (record { heap = heap; events = []; answers = answers })

-- at most `bound` instructions of the program, from its first
abbrev pub run_of : Program → Classes → List Value → Heap → List Answer → ℕ → Outcome
run_of program classes arguments heap answers bound =
    iterate_all (machine_step program classes) bound (start_of program arguments heap answers)
