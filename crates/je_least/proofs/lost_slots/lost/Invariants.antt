use Rattle.std.proofs.Common.{map, take}
use Rattle.std.specs.Prelude.{option_map}
use Rattle.je_least.specs.Losing.{IsFirstOf}
use Rattle.je_shape.specs.Views.{shape_seen, uses_seen}
use Rattle.je_least.proofs.lost_slots.lost.Given as goal

abbrev pub invariant-loop-pair : goal.invariant-loop-pair
invariant-loop-pair l = IsFirstOf (map (option_map shape_seen) l.s.list) (take l.pair-index (uses_seen l.used)) l.at l.first
