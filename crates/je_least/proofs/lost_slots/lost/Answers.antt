use Rattle.std.proofs.Common.{map}
use Rattle.std.specs.Prelude.{option_map}
use Rattle.je_shape.specs.Views.{shape_seen}
use Rattle.je_least.proofs.LostLemmas.{lost_more, lost_ends}
use Rattle.je_least.proofs.lost_slots.lost.Goals as goal

pub loop-pair-preserved : goal.loop-pair-preserved
loop-pair-preserved c =
    lost_more (map (option_map shape_seen) c.args.s.now.list) c.args.used.now c.args.at.now c.loop-pair.pair-index c.pair-item.result c.loop-pair.first c.improved-first.result
    c.loop-pair-test.true c.pair-item.is c.loop-pair.invariant c.improved-first.ensures

pub returns : goal.returns
returns c =
    lost_ends (map (option_map shape_seen) c.args.s.now.list) c.args.used.now c.args.at.now c.loop-pair.pair-index c.loop-pair.first c.loop-pair-test.false c.loop-pair.invariant
