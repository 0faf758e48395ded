use Rattle.std.proofs.Common.{◌+◌, drop, refl, slice_index, subst, length, ◌-◌}
use Rattle.std.specs.List.{AllByRecursion}
use Rattle.je_put.specs.Items.{items_seen}
use Rattle.je_put.specs.Result.{shapes_from}
use Rattle.je_put.specs.Tables.{BelongBelow}
use Rattle.je_put.proofs.ItemsLemmas.{drop_step, walk_end}
use Rattle.je_put.proofs.CodeLemmas.{shapes_more}
use Rattle.je_put.proofs.shapes.shapes_of.Goals as goal

pub loop-item-preserved : goal.loop-item-preserved
loop-item-preserved c =
    let step = drop_step c.args.items.now c.loop-item.item-index c.item-item.result c.loop-item-test.true c.item-item.is in
    record {
      belong = (subst (AllByRecursion (BelongBelow (length c.args.new_of.now - 1))) step c.loop-item.invariant.belong).1;
      whole = λ m.
          shapes_more m (slice_index c.args.new_of.now) c.loop-item.shapes.items c.push_item.new.out.items _ c.loop-item.at c.in_ok-at.at c.in_ok-width_of.field-0 c.item-item.result (drop c.loop-item.item-index c.args.items.now) (drop (c.loop-item.item-index + 1) c.args.items.now)
          (c.in_ok-push_item.ensures m) c.in_ok-at.ensures (c.in_ok-width_of.ensures m) step (c.loop-item.invariant.whole m);
    }

pub returns : goal.returns
returns c m =
    walk_end (λ l. shapes_from (slice_index c.args.new_of.now) c.loop-item.at (items_seen m l)) c.args.items.now c.loop-item.item-index _ _ refl c.loop-item-test.false (c.loop-item.invariant.whole m)
