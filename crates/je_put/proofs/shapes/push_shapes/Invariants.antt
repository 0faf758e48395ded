use Rattle.std.proofs.Common.{◌≡◌, ◌++◌, ◌-◌, length, map, slice_index}
use Rattle.std.specs.List.{AllByRecursion}
use Rattle.je_put.specs.Placing.{KnowsMade}
use Rattle.je_put.specs.Result.{moved_shape}
use Rattle.je_put.proofs.shapes.push_shapes.Given as goal

abbrev pub invariant-loop-known : goal.invariant-loop-known
invariant-loop-known l = record {
  made : AllByRecursion (KnowsMade l.size (length l.new_of - 1)) l.rest;
  whole : l.out.items ++ map (moved_shape (slice_index l.new_of) l.at l.size) l.rest ≡ l.fn.out.items ++ map (moved_shape (slice_index l.new_of) l.at l.size) l.shapes;
}

abbrev pub decreases-loop-known : goal.decreases-loop-known
decreases-loop-known l = length l.rest
