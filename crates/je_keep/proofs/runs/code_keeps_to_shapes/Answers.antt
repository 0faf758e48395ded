use Rattle.je_machine.specs.Machine.{start_of}
use Rattle.je_keep.proofs.runs.code_keeps_to_shapes.Goals as goal

pub returns-clause-begins : goal.returns-clause-begins
returns-clause-begins c = c.runs_begin.ensures.begins

pub returns-clause-reached : goal.returns-clause-reached
returns-clause-reached c = λ f m x classes arguments heap answers count t h faultless some chain.
    let begin = c.runs_begin.ensures in
    let start = start_of m.program arguments heap answers in
    c.runs_fit.ensures.reached m x classes count start t (begin.sound m x faultless) (begin.formed f m h) (begin.begins f m x arguments heap answers h faultless some) chain

pub returns-clause-inside : goal.returns-clause-inside
returns-clause-inside c = λ f m x classes arguments heap answers count t h faultless some chain.
    let begin = c.runs_begin.ensures in
    let start = start_of m.program arguments heap answers in
    c.runs_fit.ensures.inside m x classes count start t (begin.sound m x faultless) (begin.formed f m h) (begin.begins f m x arguments heap answers h faultless some) chain

pub returns-clause-known : goal.returns-clause-known
returns-clause-known c = λ f m x classes arguments heap answers count t h faultless some chain.
    let begin = c.runs_begin.ensures in
    let start = start_of m.program arguments heap answers in
    c.runs_fit.ensures.known m x classes count start t (begin.sound m x faultless) (begin.formed f m h) (begin.begins f m x arguments heap answers h faultless some) chain

pub returns-clause-depth : goal.returns-clause-depth
returns-clause-depth c = λ f m x classes arguments heap answers count t s h faultless some chain.
    let begin = c.runs_begin.ensures in
    let start = start_of m.program arguments heap answers in
    c.runs_fit.ensures.depth m x classes count start t s (begin.sound m x faultless) (begin.formed f m h) (begin.begins f m x arguments heap answers h faultless some) chain

pub returns-clause-ends : goal.returns-clause-ends
returns-clause-ends c = λ f m x classes arguments heap answers bound h faultless.
    let begin = c.runs_begin.ensures in
    c.runs_fit.ensures.whole m x classes arguments heap answers bound (begin.sound m x faultless) (begin.formed f m h) (begin.entered f m arguments heap answers h)
