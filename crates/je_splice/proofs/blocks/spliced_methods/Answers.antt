use Rattle.je_splice.specs.Layout.{operation_codes}
use Rattle.je_splice.specs.Marks.{marked_items, marked_handlers}
use Rattle.je_splice.proofs.LaidLemmas.{laid_does}
use Rattle.je_splice.proofs.SplicedLemmas.{spliced_agrees}
use Rattle.je_splice.proofs.blocks.spliced_methods.Goals as goal

pub returns-clause-does : goal.returns-clause-does
returns-clause-does c = λ limit ok p m fits classes.
    laid_does limit ok p.parameters (marked_items operation_codes m p.operations) (marked_handlers operation_codes m p.handlers) fits classes

pub returns-clause-agrees : goal.returns-clause-agrees
returns-clause-agrees c = spliced_agrees
