use Rattle.std.proofs.Common.{◌≡◌, ◌-◌, ◌+◌, length, map}
use Rattle.je_shape.specs.Slot as known
use Rattle.je_shape.specs.Flow.{with_slot}
use Rattle.je_shape.specs.Views.{slot_seen}
use Rattle.je_flow.proofs.locals.with_room.Given as goal

-- a write comes to the same
abbrev pub invariant-loop-all : goal.invariant-loop-all
invariant-loop-all l =
    (s : known.Slot) → with_slot (map slot_seen l.all) l.slot s ≡ with_slot (map slot_seen l.fn.locals) l.slot s

abbrev pub decreases-loop-all : goal.decreases-loop-all
decreases-loop-all l = l.slot + 1 - length l.all
