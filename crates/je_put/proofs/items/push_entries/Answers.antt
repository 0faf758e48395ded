use Rattle.std.proofs.Common.{◌∙◌, ◌+◌, refl, ap, map, drop, arith, length-drop}
use Rattle.std.proofs.lemmas.List.{length-map}
use Rattle.je_put.proofs.ItemsLemmas.{entries_more, kept_more, drop_step}
use Rattle.je_put.proofs.items.push_entries.Goals as goal

pub loop-k-preserved : goal.loop-k-preserved
loop-k-preserved c = record {
  seen = λ m how.
      let tail = drop (c.loop-k.k + 1) c.args.entries.now in
      let count = length-map tail (λ e. e.now.block) ∙ length-drop (c.loop-k.k + 1) c.args.entries.now in
      entries_more m c.loop-k.items.items c.push.new.self.items _ c.passed_by-over.result c.args.passed c.in_ok-sum.field-0 c.index-entries-k.result.now.block (map (λ e. e.now.block) tail) (map (λ e. e.now.block) (drop c.loop-k.k c.args.entries.now))
      how c.in_ok-push.ensures.items refl c.passed_by-over.ensures (omega (arith, count, c.in_ok-sum.ensures, c.loop-k-test.true))
      (ap (map (λ e. e.now.block)) (drop_step c.args.entries.now c.loop-k.k c.index-entries-k.result c.loop-k-test.true c.index-entries-k.is))
      ∙ c.loop-k.invariant.seen m how;
  kept = λ count all. kept_more count c.loop-k.items.items c.push.new.self.items _ c.in_ok-push.ensures.items tt (c.loop-k.invariant.kept count all);
}
