use Rattle.je_shape.proofs.EntryLemmas.{entered}
use Rattle.je_shape.proofs.entry.entry_shape.Goals as goal

pub returns : goal.returns
returns c =
    entered c.args.class_name.now c.args.is_static c.args.is_init c.new.result _ c.from_vec.result c.as_slice.result.now c.args.m.now.params
    c.new.ensures c.as_slice.ensures c.in_ok-locals.ensures
    (rw c.from_vec.ensures c.in_ok-push_parameters.ensures)
