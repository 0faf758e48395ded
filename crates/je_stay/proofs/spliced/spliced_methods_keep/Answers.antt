use Rattle.std.specs.Prelude.{suc, [], length}
use Rattle.je_machine.specs.Frame.{frame_of}
use Rattle.je_machine.specs.Machine.{enter}
use Rattle.je_fit.specs.Fits.{fits_known}
use Rattle.je_splice.specs.Reference.{body_of}
use Rattle.je_splice.specs.Layout.{operation_codes}
use Rattle.je_splice.specs.Marks.{marked_items, marked}
use Rattle.je_stay.specs.Marked.{known_at}
use Rattle.je_stay.proofs.MarkedLemmas.{begins_there}
use Rattle.je_stay.proofs.SplicedLemmas.{marked_fits, does_from}
use Rattle.je_stay.proofs.spliced.spliced_methods_keep.Goals as goal

pub returns-clause-begins : goal.returns-clause-begins
returns-clause-begins c = c.runs_fit.ensures.begins

pub returns-clause-does : goal.returns-clause-does
returns-clause-does c = λ limit m x marks classes keeps fits.
    let count = length (marked_items operation_codes marks m.program.operations) in
    let y = known_at marks x (length m.program.operations) in
    does_from m x marks keeps classes limit count (suc count) (body_of (marked m.program marks) classes)
    (c.spliced_methods.ensures.does limit (λ place. fits_known (y place)) m.program marks (marked_fits m x marks keeps limit fits) classes)

pub returns-clause-agrees : goal.returns-clause-agrees
returns-clause-agrees c = λ limit m x marks classes arguments heap answers keeps fits fit.
    let y = known_at marks x (length m.program.operations) in
    c.spliced_methods.ensures.agrees limit (λ place. fits_known (y place)) m.program marks (marked_fits m x marks keeps limit fits) classes arguments heap answers
    (begins_there m x marks keeps (frame_of [] (enter m.program.parameters arguments)) fit)
