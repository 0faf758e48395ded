use Rattle.je_stay.proofs.methods.class_methods_keep.Goals as goal

pub returns-clause-keeps : goal.returns-clause-keeps
returns-clause-keeps c = λ f m x marks is faultless pieces.
    c.instructions_stay.ensures.marked m x marks (c.least_shapes_are_sound.ensures.sound m x faultless.least faultless.whole)
    (c.code_is_well_formed.ensures.formed f.consts f.is_static f.text f.code f.table m.program is.pool is.program) pieces

pub returns-clause-agrees : goal.returns-clause-agrees
returns-clause-agrees c = λ limit f m x marks classes arguments heap answers is faultless some pieces fits.
    let keeps =
    c.instructions_stay.ensures.marked m x marks (c.least_shapes_are_sound.ensures.sound m x faultless.least faultless.whole)
    (c.code_is_well_formed.ensures.formed f.consts f.is_static f.text f.code f.table m.program is.pool is.program) pieces
    in
    c.spliced_methods_keep.ensures.agrees limit m x marks classes arguments heap answers keeps fits
    (c.code_keeps_to_shapes.ensures.begins f m x arguments heap answers is faultless some)
