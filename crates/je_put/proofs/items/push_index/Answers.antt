use Rattle.std.proofs.Common.{◌∙◌, refl}
use Rattle.je_put.proofs.ItemsLemmas.{index_pushed_of, kept_more}
use Rattle.je_put.proofs.items.push_index.Goals as goal

pub returns-clause-seen : goal.returns-clause-seen
returns-clause-seen c m i h =
    index_pushed_of m i c.args.next c.args.parts.now c.args.instr.now _ _ _ _ _ _ _ c.push_blocks-2.new.items.items c.push.new.self.items c.last_of.result c.len.result h
    (c.len.ensures ∙ c.args.parts.now.passed.ok.0) c.deref.ensures.value c.deref-2.ensures.value c.deref-3.ensures.value
    (c.in_ok-push_entries.ensures.seen m h.completes) (c.in_ok-push_blocks.ensures.seen m) (c.in_ok-push_blocks-2.ensures.seen m) refl
    (c.last_of.ensures.seen m i h.completes h.next) c.in_ok-push.ensures.items

pub returns-clause-kept : goal.returns-clause-kept
returns-clause-kept c count has all =
    kept_more count c.push_blocks-2.new.items.items c.push.new.self.items c.last_of.result c.in_ok-push.ensures.items (c.last_of.ensures.kept count has)
    (c.in_ok-push_blocks-2.ensures.kept count (c.in_ok-push_blocks.ensures.kept count (c.in_ok-push_entries.ensures.kept count all)))
