use Rattle.std.proofs.Common.{◌+◌, drop}
use Rattle.je_put.proofs.ItemsLemmas.{drop_step}
use Rattle.je_put.proofs.TablesLemmas.{begins_more, begins_end}
use Rattle.je_put.proofs.tables.begins_of.Goals as goal

pub loop-item-preserved : goal.loop-item-preserved
loop-item-preserved c m =
    begins_more m c.loop-item.begins.items c.push.new.self.items _ c.loop-item.at c.in_ok-at.at c.in_ok-width_of.field-0 c.item-item.result (drop c.loop-item.item-index c.args.items.now) (drop (c.loop-item.item-index + 1) c.args.items.now)
    c.in_ok-push.ensures.items c.in_ok-at.ensures (c.in_ok-width_of.ensures m) (drop_step c.args.items.now c.loop-item.item-index c.item-item.result c.loop-item-test.true c.item-item.is) (c.loop-item.invariant m)

pub returns : goal.returns
returns c m = begins_end m c.loop-item.begins.items c.push-2.new.self.items _ c.loop-item.at c.args.items.now c.loop-item.item-index c.in_ok-push-2.ensures.items c.loop-item-test.false (c.loop-item.invariant m)
