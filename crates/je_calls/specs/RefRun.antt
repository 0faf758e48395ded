-- The reference run: the original method, in which each chosen call does its fragment.
use Rattle.std.specs.Prelude.{ℕ, zero, suc, List, length, Option, Some, None, option_map, slice_get}
use Rattle.je_machine.specs.Value.{Value, zero_of}
use Rattle.je_machine.specs.Heap.{Heap}
use Rattle.je_machine.specs.Classes.{Classes}
use Rattle.je_machine.specs.Action.{Action, operands_of, result_of}
use Rattle.je_machine.specs.Operation.{Act, Operation, Do, Program}
use Rattle.je_machine.specs.Outside.{Answer}
use Rattle.je_machine.specs.Frame.{Falls, Halts, frame_of, popped, push, under}
use Rattle.je_machine.specs.Frame as flow
use Rattle.je_machine.specs.Step.{Outcome, Progress, Step, goes_on, iterate_all}
use Rattle.je_machine.specs.Machine.{State, Outer, catcher, follow, perform_at, start_of, run_of}
use Rattle.je_machine.specs.View.{AgreeingRuns}
use Rattle.je_calls.specs.declared.rule.Fragment.{Fragment}
use Rattle.je_calls.specs.Means.{Meaning, Completes, Raises, Stays, means}

-- The result that an action's fragment leaves: what `$_` has, which begins as the zero of its kind.
-- No fragment assigns it so far.
abbrev pub left_result : Action → Option Value
left_result action = option_map zero_of (result_of action)

-- What follows a fragment, with the stack and the locals that it leaves: what follows an
-- instruction that falls through, throws or waits.
abbrev pub after_fragment : ℕ → Outer → List Value → List Value → Meaning → Progress State
after_fragment next outer stack locals (Completes left outside) =
    follow next outer left locals (Falls (frame_of stack locals) outside)
after_fragment next outer stack locals (Raises reference left outside) =
    follow next outer left locals (flow.Raises reference outside)
after_fragment next outer stack locals (Stays left outside) =
    follow next outer left locals (Halts outside)

-- a fragment in the place of an action: it takes the action's operands, the deepest first, and
-- pushes a result where the action does
abbrev pub instead_of : Classes → ℕ → Outer → ℕ → Action → Fragment → State → Progress State
instead_of classes next outer left action fragment s =
    let count = length (operands_of action) in
    after_fragment next outer (push (left_result action) (under count s.frame.stack)) s.frame.locals
    (means fragment (record {
      classes = classes;
      original = action;
      operands = popped count s.frame.stack;
    }) left s.outside)

-- one step: the fragment where an action is chosen, else the instruction
abbrev pub step_at : Classes → ℕ → Outer → ℕ → Option Fragment → Option Operation → State
    → Progress State
step_at classes next outer left None operation s = perform_at classes next outer left operation s
step_at classes next outer left (Some fragment) (Some (Do (Act action))) s =
    instead_of classes next outer left action fragment s
step_at classes next outer left (Some fragment) operation s =
    perform_at classes next outer left operation s

-- the choice is by the index of the instruction
abbrev pub take_reference : Program → Classes → (ℕ → Option Fragment) → ℕ → State → Progress State
take_reference program classes choice zero s = goes_on zero s.frame.locals s.outside
take_reference program classes choice (suc left) s =
    step_at classes (suc s.place) (catcher program.handlers classes s.place) left
    (choice s.place) (slice_get program.operations s.place) s

abbrev pub reference_step : Program → Classes → (ℕ → Option Fragment) → Step State
reference_step program classes choice =
    record {
      take = take_reference program classes choice;
      locals = λ s. s.frame.locals;
      outside = λ s. s.outside;
    }

-- at most `bound` steps of the reference run, from the first instruction
abbrev pub reference_run : Program → (ℕ → Option Fragment) → Classes → List Value → Heap
    → List Answer → ℕ → Outcome
reference_run program choice classes arguments heap answers bound =
    iterate_all (reference_step program classes choice) bound
    (start_of program arguments heap answers)

-- The new program does what the old one does with fragments in the place of what is chosen, for
-- every class relation, arguments, heap and answers: what the old one shows under any bound the new
-- one shows under some bound, and what the new one shows is no more than that. So both end alike
-- with equal heaps, or neither ends and both show the same events.
abbrev pub Agrees : Program → (ℕ → Option Fragment) → Program → Type 0
Agrees old choice new =
    (classes : Classes) (arguments : List Value) (heap : Heap) (answers : List Answer)
    → AgreeingRuns (reference_run old choice classes arguments heap answers)
    (run_of new classes arguments heap answers)
