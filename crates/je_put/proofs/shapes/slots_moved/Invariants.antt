use Rattle.std.proofs.Common.{◌≡◌, ◌++◌, ◌-◌, length, map, slice_index}
use Rattle.std.specs.List.{AllByRecursion}
use Rattle.je_put.specs.Placing.{IsMadeWithin}
use Rattle.je_put.specs.Result.{moved_slot}
use Rattle.je_put.proofs.shapes.slots_moved.Given as goal

abbrev pub invariant-loop-slot : goal.invariant-loop-slot
invariant-loop-slot l = record {
  made : AllByRecursion (IsMadeWithin l.size (length l.new_of - 1)) l.rest;
  whole : l.out.items ++ map (moved_slot (slice_index l.new_of) l.at l.size) l.rest ≡ map (moved_slot (slice_index l.new_of) l.at l.size) l.slots;
}

abbrev pub decreases-loop-slot : goal.decreases-loop-slot
decreases-loop-slot l = length l.rest
