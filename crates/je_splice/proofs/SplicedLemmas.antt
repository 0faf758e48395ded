-- A method with its marks.
use Rattle.std.proofs.Common.{ℕ, suc, List, [], length, Bool}
use Rattle.std.specs.Prelude.{IsTrue}
use Rattle.je_machine.specs.Value.{Value}
use Rattle.je_machine.specs.Heap.{Heap}
use Rattle.je_machine.specs.Classes.{Classes}
use Rattle.je_machine.specs.Outside.{Answer}
use Rattle.je_machine.specs.Operation.{Operation, Handler, Program}
use Rattle.je_machine.specs.Frame.{Frame, frame_of}
use Rattle.je_machine.specs.Machine.{enter, run_of}
use Rattle.je_machine.specs.View.{AgreeingRuns}
use Rattle.je_splice.specs.Reference.{body_of}
use Rattle.je_splice.specs.Layout.{operation_codes, Item}
use Rattle.je_splice.specs.Laid.{Fragment, Fits}
use Rattle.je_splice.specs.Marks.{Marks, marked_items, marked_handlers, marked, spliced}
use Rattle.je_splice.proofs.ComesLemmas.{does_agree}
use Rattle.je_splice.proofs.LaidLemmas.{laid_does}

pub spliced_agrees : (limit : ℕ) (ok : ℕ → Frame → Bool) (p : Program) (m : Marks Fragment Handler)
    → Fits limit ok p.parameters (marked_items operation_codes m p.operations) (marked_handlers operation_codes m p.handlers)
    → (classes : Classes) (arguments : List Value) (heap : Heap) (answers : List Answer) → IsTrue (ok 0 (frame_of [] (enter p.parameters arguments)))
    → AgreeingRuns (λ n. body_of (marked p m) classes n (enter p.parameters arguments) (record { heap = heap; events = []; answers = answers }))
    (run_of (spliced p m) classes arguments heap answers)
spliced_agrees limit ok p m fits classes arguments heap answers fine =
    let items : List (Item Operation Fragment) = marked_items operation_codes m p.operations in
    does_agree (spliced p m) classes limit (length items) (suc (length items)) (λ locals. ok 0 (frame_of [] locals)) (body_of (marked p m) classes)
    (laid_does limit ok p.parameters items (marked_handlers operation_codes m p.handlers) fits classes)
    (enter p.parameters arguments) (record { heap = heap; events = []; answers = answers }) fine
