use Rattle.std.proofs.Common.{◌∙◌, length, map, ap}
use Rattle.std.specs.Prelude.{option_map}
use Rattle.je_shape.specs.Views.{slot_seen}
use Rattle.je_flow.proofs.AlikeLemmas.{acted_alike}
use Rattle.je_flow.proofs.through.acted.Goals as goal

pub returns : goal.returns
returns c =
    acted_alike c.args.at c.args.action.now (option_map slot_seen c.in_ok-slot.slot) c.len-count.result
    (map slot_seen c.as_slice.result.now) (map slot_seen c.as_slice-2.result.now) (map slot_seen c.as_slice-3.result.now)
    (map slot_seen c.args.s.now.stack) (map slot_seen c.args.s.now.locals) (map slot_seen c.under_items.result.now)
    (map slot_seen c.in_ok-stack.stack) (map slot_seen c.in_ok-locals.locals)
    (ap (map slot_seen) c.as_slice.ensures) (ap (map slot_seen) c.as_slice-2.ensures) (ap (map slot_seen) c.as_slice-3.ensures)
    c.in_ok-slot.ensures (c.len-count.ensures ∙ ap length c.in_ok-kinds.ensures)
    c.under_items.ensures c.in_ok-stack.ensures c.in_ok-locals.ensures
