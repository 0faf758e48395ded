-- The reference run: a program at some of whose places something is meant in place of an
-- instruction.
use Rattle.std.specs.Prelude.{ℕ, zero, suc, List, [], Option, Some, None}
use Rattle.je_machine.specs.Value.{Kind}
use Rattle.je_machine.specs.Classes.{Classes}
use Rattle.je_machine.specs.Operation.{Operation, Handler}
use Rattle.je_machine.specs.Frame.{frame_of, perform}
use Rattle.je_machine.specs.Step.{Progress, Goes, Step, Returned, goes_on, ends, iterate_all}
use Rattle.je_machine.specs.Machine.{State, Outer, state_at, catcher, enter_handler, follow}
use Rattle.je_splice.specs.Block.{Completes, Throws, Returns, Meant, Exits, Stays, Meaning}
use Rattle.je_splice.specs.Comes.{Body}

-- what is done at a place
pub data Doing : Type 0 where
  Performs : (operation : Operation) → Doing
  Means : (meaning : Classes → Meaning) → Doing

-- What is done at each place, where it leads to where it does not jump, return or throw, and the
-- place by which its throws are dispatched. Targets, and the ranges of the entries, are places.
pub record Reference : Type 0 where
  pub parameters : List Kind
  pub doing : ℕ → Option Doing
  pub handlers : List Handler
  pub next : ℕ → ℕ
  pub home : ℕ → ℕ

abbrev pub thrown_at : Reference → Classes → ℕ → Outer
thrown_at r classes place = catcher r.handlers classes (r.home place)

-- what follows what is meant, by the place that comes next and where throws go
abbrev pub follow_meant : ℕ → Outer → Meant → Progress State
follow_meant next outer (Exits (Completes stack) left locals outside) =
    Goes left (state_at next (frame_of stack locals) outside)
follow_meant next outer (Exits (Throws reference) left locals outside) =
    enter_handler (outer outside.heap reference) left reference locals outside
follow_meant next outer (Exits (Returns result) left locals outside) =
    ends (Returned result) left locals outside
follow_meant next outer (Stays left locals outside) = goes_on left locals outside

abbrev pub do_at : Classes → ℕ → Outer → ℕ → Option Doing → State → Progress State
do_at classes next outer left (Some (Performs operation)) s =
    follow next outer left s.frame.locals (perform classes operation s.frame s.outside)
do_at classes next outer left (Some (Means meaning)) s =
    follow_meant next outer (meaning classes left s.frame s.outside)
do_at classes next outer left None s = goes_on left s.frame.locals s.outside

abbrev pub take_reference : Reference → Classes → ℕ → State → Progress State
take_reference r classes zero s = goes_on zero s.frame.locals s.outside
take_reference r classes (suc left) s =
    do_at classes (r.next s.place) (thrown_at r classes s.place) left (r.doing s.place) s

-- Each step costs one, and what a meaning spends beside.
abbrev pub reference_step : Reference → Classes → Step State
reference_step r classes =
    record {
      take = take_reference r classes;
      locals = λ s. s.frame.locals;
      outside =
          λ s. s.outside;
    }

-- the run from the first place
abbrev pub body_of : Reference → Classes → Body
body_of r classes bound locals outside =
    iterate_all (reference_step r classes) bound (state_at 0 (frame_of [] locals) outside)
