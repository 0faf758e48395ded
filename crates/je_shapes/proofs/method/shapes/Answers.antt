use Rattle.je_shapes.proofs.CodeLemmas.{shapes_of_all, bad_of_all}
use Rattle.je_shapes.proofs.method.shapes.Goals as goal

pub returns-clause-shapes : goal.returns-clause-shapes
returns-clause-shapes c =
    shapes_of_all c.args.consts.now c.args.p.now c.args.class_name.now c.in-Ok.program c.args.entry.now c.args.frames.now _
    c.least_shapes.result c.in-Ok.ensures (rw c.result_of.ensures at c.least_shapes.ensures.shapes)

pub returns-clause-bad : goal.returns-clause-bad
returns-clause-bad c =
    bad_of_all c.args.consts.now c.args.p.now c.args.class_name.now c.in-Ok.program c.args.entry.now c.args.frames.now _
    c.least_shapes.result c.in-Ok.ensures (rw c.result_of.ensures at c.least_shapes.ensures.bad)
