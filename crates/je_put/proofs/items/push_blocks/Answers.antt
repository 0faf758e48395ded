use Rattle.std.proofs.Common.{◌∙◌, ◌+◌, ◌++◌, refl, ap, sym, map, drop}
use Rattle.je_splice.specs.Layout as layout
use Rattle.je_put.specs.Items.{items_seen}
use Rattle.je_put.proofs.ItemsLemmas.{one_more, kept_more, drop_step, walk_end}
use Rattle.je_put.proofs.items.push_blocks.Goals as goal

pub loop-block-preserved : goal.loop-block-preserved
loop-block-preserved c = record {
  seen = λ m.
      one_more m c.loop-block.items.items c.push.new.self.items _ (map (λ b. layout.Puts 0 b.now) (drop (c.loop-block.block-index + 1) c.args.blocks.now)) c.in_ok-push.ensures.items
      ∙ ap (λ l. items_seen m c.loop-block.items.items ++ map (λ b. layout.Puts 0 b.now) l) (sym (drop_step c.args.blocks.now c.loop-block.block-index c.block-item.result c.loop-block-test.true c.block-item.is))
      ∙ c.loop-block.invariant.seen m;
  kept = λ count all. kept_more count c.loop-block.items.items c.push.new.self.items _ c.in_ok-push.ensures.items tt (c.loop-block.invariant.kept count all);
}

pub returns-clause-seen : goal.returns-clause-seen
returns-clause-seen c m =
    walk_end (map (λ b. layout.Puts 0 b.now)) c.args.blocks.now c.loop-block.block-index _ _ refl c.loop-block-test.false (c.loop-block.invariant.seen m)
