use Rattle.std.proofs.Common.{◌≡◌, map, take}
use Rattle.je_shape.specs.Flow.{made}
use Rattle.je_shape.specs.Sorts.{word_seen}
use Rattle.je_shape.specs.Views.{slot_seen}
use Rattle.je_flow.proofs.making.made_all.Given as goal

abbrev pub invariant-loop-slot : goal.invariant-loop-slot
invariant-loop-slot l =
    map slot_seen l.all.items ≡ map (made (word_seen l.word) l.class) (map slot_seen (take l.slot-index l.slots))
