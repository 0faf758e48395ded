use Rattle.std.proofs.Common.{map, take}
use Rattle.std.specs.Prelude.{option_map}
use Rattle.je_least.specs.Losing.{Improves}
use Rattle.je_shape.specs.Views.{slot_seen, shape_seen}
use Rattle.je_least.proofs.lost_slots.improved.Given as goal

abbrev pub invariant-loop-index : goal.invariant-loop-index
invariant-loop-index l = Improves (map (option_map shape_seen) l.s.list) l.slot (slot_seen l.kind) (take l.index-index l.at) l.fn.first l.best
