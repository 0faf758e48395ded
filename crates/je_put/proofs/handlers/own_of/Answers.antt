use Rattle.std.proofs.Common.{◌+◌, drop, refl, filter}
use Rattle.je_splice.specs.InstrCodes.{instr_codes, covers_some}
use Rattle.je_splice.specs.Layout.{own_from}
use Rattle.je_put.specs.Items.{items_seen}
use Rattle.je_put.specs.Result.{pieces}
use Rattle.je_put.proofs.ItemsLemmas.{drop_step, walk_end}
use Rattle.je_put.proofs.CodeLemmas.{own_more}
use Rattle.je_put.proofs.handlers.own_of.Goals as goal

pub loop-item-preserved : goal.loop-item-preserved
loop-item-preserved c m =
    own_more m c.loop-item.own.items c.push_item.new.out.items _ c.loop-item.at c.in_ok-at.at c.in_ok-width_of.field-0 c.item-item.result (drop c.loop-item.item-index c.args.items.now) (drop (c.loop-item.item-index + 1) c.args.items.now)
    (c.in_ok-push_item.ensures m) c.in_ok-at.ensures (c.in_ok-width_of.ensures m) (drop_step c.args.items.now c.loop-item.item-index c.item-item.result c.loop-item-test.true c.item-item.is) (c.loop-item.invariant m)

pub returns : goal.returns
returns c m =
    walk_end (λ l. filter covers_some (own_from instr_codes c.loop-item.at (pieces (items_seen m l)))) c.args.items.now c.loop-item.item-index _ _ refl c.loop-item-test.false (c.loop-item.invariant m)
