use Rattle.je_machine.specs.Machine.{start_of}
use Rattle.je_keep.proofs.EntryLemmas.{start_fits, some_operation}
use Rattle.je_keep.proofs.runs.runs_begin.Goals as goal

pub returns-clause-formed : goal.returns-clause-formed
returns-clause-formed c = λ f m h. c.code_is_well_formed.ensures.formed f.consts f.is_static f.text f.code f.table m.program h.pool h.program

pub returns-clause-sound : goal.returns-clause-sound
returns-clause-sound c = λ m x h. c.least_shapes_are_sound.ensures.sound m x h.least h.whole

pub returns-clause-entered : goal.returns-clause-entered
returns-clause-entered c = λ f m arguments heap answers h. start_fits c.one_program.ensures.program c.parameters_fit.ensures.of_static c.parameters_fit.ensures.of_instance f m arguments h

pub returns-clause-begins : goal.returns-clause-begins
returns-clause-begins c = λ f m x arguments heap answers h faultless some.
    let start = start_of m.program arguments heap answers in
    let sound = c.least_shapes_are_sound.ensures.sound m x faultless.least faultless.whole in
    let entered = start_fits c.one_program.ensures.program c.parameters_fit.ensures.of_static c.parameters_fit.ensures.of_instance f m arguments h in
    c.runs_fit.ensures.begins m x start.frame sound (some_operation f m h some) entered
