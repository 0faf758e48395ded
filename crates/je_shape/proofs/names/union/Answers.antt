use Rattle.std.proofs.Common.{◌∙◌, ap}
use Rattle.je_shape.specs.Inserted.{inserted}
use Rattle.je_shape.proofs.NameLemmas.{union_step}
use Rattle.je_shape.proofs.names.union.Goals as goal

pub loop-name-preserved : goal.loop-name-preserved
loop-name-preserved c =
    let name = c.name-item.result in
    union_step c.args.a.now c.args.b.now c.loop-name.all.items c.in_ok-all.all.items c.loop-name.name-index name name c.loop-name-test.true c.name-item.is
    (c.in_ok-all.ensures ∙ ap (inserted name) c.deref.ensures.value) c.loop-name.invariant
