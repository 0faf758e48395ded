use Rattle.std.proofs.Common.{sym, ◌∙◌}
use Rattle.std.specs.Ordering.{nat_cmp}
use Rattle.std.specs.FinMap.{get-empty}
use Rattle.std.specs.Cmp.Lexicographic.{slice_cmp}
use Rattle.je_base.proofs.StoreLemmas.{get_hit, get_miss, within_at}
use Rattle.je_base.proofs.store.last_at.Goals as goal
use Rattle.je_base.proofs.store.last_at.Goals.{then-eq, else-eq}

pub loop-span-init : goal.loop-span-init
loop-span-init c = record { within = tt; found = sym (get-empty (slice_cmp nat_cmp) c.args.path.now) }

pub loop-span-preserved : goal.loop-span-preserved
loop-span-preserved c =
    let bytes = c.args.bytes.now in
    let path = c.args.path.now in
    let spans = c.args.spans.now in
    let i = c.loop-span.span-index in
    elim c.if-eq.branch [
      | then-eq w ↦ rw w.found-is record {
        within = within_at _ spans i _ c.loop-span-test.true c.requires;
        found = get_hit bytes path spans i _ c.loop-span-test.true (sym c.eq.ensures ∙ w.if-eq.true);
      }
      | else-eq w ↦ rw w.found-is record {
        within = c.loop-span.invariant.within;
        found = c.loop-span.invariant.found ∙ get_miss bytes path spans i (record { start = 0; middle = 0; end = 0 }) c.loop-span-test.true (sym c.eq.ensures ∙ w.if-eq.false);
      }
    ]
