use Rattle.std.proofs.Common.{◌≡◌, ◌++◌, length}
use Rattle.je_value.proofs.field_type.copy_types.Given as goal

-- the copies so far and the types that come are all
abbrev pub invariant-loop-of : goal.invariant-loop-of
invariant-loop-of l = l.copies ++ l.left ≡ l.fn.types

abbrev pub decreases-loop-of : goal.decreases-loop-of
decreases-loop-of l = length l.left
