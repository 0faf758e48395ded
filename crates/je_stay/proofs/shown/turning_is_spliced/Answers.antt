use Rattle.std.proofs.Common.{refl}
use Rattle.je_stay.proofs.SampleLemmas.{turning_least, turning_sound, turning_formed, turning_keeps, turning_fits, turning_begins, turning_laid}
use Rattle.je_stay.specs.Sample.{turning, turning_shapes, turning_marks, turning_places, turning_inner}
use Rattle.je_splice.specs.Layout.{operation_codes}
use Rattle.je_splice.specs.Marks.{marked_items, marked_handlers}
use Rattle.je_stay.proofs.shown.turning_is_spliced.Goals as goal

pub returns-clause-least : goal.returns-clause-least
returns-clause-least c = turning_least

pub returns-clause-sound : goal.returns-clause-sound
returns-clause-sound c = turning_sound

pub returns-clause-formed : goal.returns-clause-formed
returns-clause-formed c = turning_formed

pub returns-clause-keeps : goal.returns-clause-keeps
returns-clause-keeps c = turning_keeps

pub returns-clause-fits : goal.returns-clause-fits
returns-clause-fits c = turning_fits

pub returns-clause-places : goal.returns-clause-places
returns-clause-places c = refl

pub returns-clause-begins : goal.returns-clause-begins
returns-clause-begins c = turning_begins

pub returns-clause-agrees : goal.returns-clause-agrees
returns-clause-agrees c = λ classes arguments heap answers.
    c.spliced_methods_keep.ensures.agrees 1 turning turning_shapes turning_marks classes arguments heap answers turning_keeps turning_fits (turning_begins arguments)

pub returns-clause-code : goal.returns-clause-code
returns-clause-code c =
    c.laid_code_keeps.ensures.keeps turning.result turning_places turning_inner turning.program.parameters
    (marked_items operation_codes turning_marks turning.program.operations) (marked_handlers operation_codes turning_marks turning.program.handlers) turning_laid

pub returns-clause-indexes : goal.returns-clause-indexes
returns-clause-indexes c = refl
