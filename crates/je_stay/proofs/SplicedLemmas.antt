-- A method with pieces that keep to its shapes, spliced, and the states to which its reference comes.
use Rattle.std.proofs.Common.{◌≡◌, ℕ, suc, ◌<◌, ◌≤◌, [], length, Some, ◌∙◌, arith}
use Rattle.std.specs.Prelude.{IsTrue, slice_get}
use Rattle.std.proofs.lemmas.Option.{slice_get_within}
use Rattle.je_machine.specs.Classes.{Classes}
use Rattle.je_machine.specs.Operation.{Operation, Handler}
use Rattle.je_machine.specs.Frame.{frame_of}
use Rattle.je_machine.specs.Machine.{State}
use Rattle.je_shape.specs.Shape.{Shape, Nothing, Has}
use Rattle.je_shape.specs.Least.{Method, Assignment}
use Rattle.je_fit.specs.Fits.{fits_known}
use Rattle.je_fit.proofs.RunLemmas.{known_depth}
use Rattle.je_splice.specs.Comes.{Body, Does}
use Rattle.je_splice.specs.Reference.{reference_step}
use Rattle.je_splice.specs.Layout.{operation_codes}
use Rattle.je_splice.specs.Laid.{Fragment, Fits}
use Rattle.je_splice.specs.Marks.{Marks, first_of, stand, marked_items, marked_handlers, marked, spliced}
use Rattle.je_splice.proofs.MarksLemmas.{stand_before}
use Rattle.je_stay.specs.Visits.{Visits}
use Rattle.je_stay.specs.Marked.{known_at, KeepsMarked, FitsMarked}
use Rattle.je_stay.proofs.ReferenceLemmas.{nothing_fits, visited, items_fit}
use Rattle.je_stay.proofs.PlaceLemmas.{known_is}
use Rattle.je_stay.proofs.MarkedLemmas.{begins_there, marked_shaped, each_fits}

module _ (m : Method) (x : Assignment) (marks : Marks Fragment Handler) (keeps : KeepsMarked m x marks) where
  abbrev y : Assignment
  y = known_at marks x (length m.program.operations)

  pub marked_fits : (limit : ℕ) → FitsMarked limit m x marks
      → Fits limit (λ place. fits_known (y place)) m.program.parameters (marked_items operation_codes marks m.program.operations)
      (marked_handlers operation_codes marks m.program.handlers)
  marked_fits limit fits =
      items_fit m.result y limit m.program.parameters (marked_items operation_codes marks m.program.operations) (marked_handlers operation_codes marks m.program.handlers)
      (marked_shaped m x marks keeps) (each_fits m x marks keeps limit fits)

  -- what is asked of the first place follows from what is asked of the first index
  pub does_from : (classes : Classes) (limit most far : ℕ) (body : Body) → Does (spliced m.program marks) classes limit most far (λ locals. fits_known (y 0) (frame_of [] locals)) body
      → Does (spliced m.program marks) classes limit most far (λ locals. fits_known (x 0) (frame_of [] locals)) body
  does_from classes limit most far body does =
      record { does = λ bound locals own outside fine same. does.does bound locals own outside (begins_there m x marks keeps (frame_of [] locals) fine) same }

  pub index_depth : (classes : Classes) (count bound left at : ℕ) (s t : State) (shape : Shape) → IsTrue (fits_known (y s.place) s.frame)
      → Visits (reference_step (marked m.program marks) classes) count bound s left t → at < length m.program.operations → first_of marks at ≤ t.place → t.place < first_of marks (suc at)
      → x at ≡ Has shape → length t.frame.stack ≡ length shape.stack
  index_depth classes count bound left at s t shape fit visits inside low high e =
      known_depth (y t.place) shape t.frame (known_is marks x (length m.program.operations) at t.place inside low high ∙ e)
      (visited m.result y (marked m.program marks) (marked_shaped m x marks keeps) classes count bound s left t fit visits)

  pub index_known : (classes : Classes) (count bound left at : ℕ) (s t : State) → IsTrue (fits_known (y s.place) s.frame)
      → Visits (reference_step (marked m.program marks) classes) count bound s left t → at < length m.program.operations → first_of marks at ≤ t.place → t.place < first_of marks (suc at)
      → x at ≡ Nothing → ⊥
  index_known classes count bound left at s t fit visits inside low high e =
      nothing_fits (y t.place) t.frame (known_is marks x (length m.program.operations) at t.place inside low high ∙ e)
      (visited m.result y (marked m.program marks) (marked_shaped m x marks keeps) classes count bound s left t fit visits)

  pub return_depth : (classes : Classes) (count bound left at : ℕ) (s t : State) (op : Operation) (shape : Shape) → IsTrue (fits_known (y s.place) s.frame)
      → Visits (reference_step (marked m.program marks) classes) count bound s left t → slice_get m.program.operations at ≡ Some op → t.place ≡ stand marks at → x at ≡ Has shape
      → length t.frame.stack ≡ length shape.stack
  return_depth classes count bound left at s t op shape fit visits there e known =
      let last = stand_before marks at in
      index_depth classes count bound left at s t shape fit visits (slice_get_within m.program.operations at op there) (omega (arith, e)) (omega (arith, e, last)) known
