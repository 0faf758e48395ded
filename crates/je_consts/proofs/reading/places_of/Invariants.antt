use Rattle.std.proofs.Common.{◌≡◌, ◌-◌, false}
use Rattle.je_consts.specs.Reading.{places_at}
use Rattle.je_consts.proofs.Loop.{with_front}
use Rattle.je_consts.proofs.reading.places_of.Given as goal

abbrev pub invariant-loop-index : goal.invariant-loop-index
invariant-loop-index l = with_front l.places.items (places_at l.wide (l.count - l.index) l.index l.bytes l.next) ≡ places_at false (l.count - 1) 1 l.bytes l.at
