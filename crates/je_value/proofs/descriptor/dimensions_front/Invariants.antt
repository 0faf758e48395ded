use Rattle.std.proofs.Common.{◌≡◌, ◌+◌, length}
use Rattle.std.specs.Option.{option_map}
use Rattle.je_value.specs.Reading.{type_at, under}
use Rattle.je_value.proofs.descriptor.dimensions_front.Given as goal

abbrev pub invariant-loop-first : goal.invariant-loop-first
invariant-loop-first l =
    record {
      count : l.dimensions + length l.left ≡ length l.fn.bytes;
      whole : type_at l.fn.bytes ≡ option_map (under l.dimensions) (type_at l.left);
    }

abbrev pub decreases-loop-first : goal.decreases-loop-first
decreases-loop-first l = length l.left
