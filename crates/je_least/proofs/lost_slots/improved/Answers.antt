use Rattle.std.proofs.Common.{map, get_or, refl}
use Rattle.std.specs.Prelude.{option_map}
use Rattle.std.proofs.lemmas.Bool.{both_ways}
use Rattle.je_shape.specs.Views.{slot_seen, shape_seen}
use Rattle.je_least.proofs.LostLemmas.{improves_more, improves_past}
use Rattle.je_least.proofs.lost_slots.improved.Goals as goal
use Rattle.je_least.proofs.lost_slots.improved.Goals.{then-differs, else-differs}

pub loop-index-preserved : goal.loop-index-preserved
loop-index-preserved c =
    let x = get_or c.args.at.now c.loop-index.index-index 0 in
    elim c.if-differs.branch [
      | then-differs w ↦
          rw w.best-is
          (improves_more (map (option_map shape_seen) c.args.s.now.list) c.args.slot (slot_seen c.args.kind.now) c.args.at.now c.loop-index.index-index x 0 c.args.first c.loop-index.best w.earlier-best.result
          c.loop-index-test.true refl (c.differs.ensures.0 w.if-differs.true) w.earlier-best.ensures.from w.earlier-best.ensures.old w.earlier-best.ensures.each c.loop-index.invariant)
      | else-differs w ↦
          rw w.best-is
          (improves_past (map (option_map shape_seen) c.args.s.now.list) c.args.slot (slot_seen c.args.kind.now) c.args.at.now c.loop-index.index-index x 0 c.args.first c.loop-index.best
          c.loop-index-test.true refl (λ k. both_ways c.differs.result w.if-differs.false (c.differs.ensures.1 k)) c.loop-index.invariant)
    ]
