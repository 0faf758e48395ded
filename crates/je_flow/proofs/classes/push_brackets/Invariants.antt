use Rattle.std.proofs.Common.{◌≡◌, ◌++◌}
use Rattle.je_desc.specs.FieldType.{FieldType, descriptor}
use Rattle.je_value.specs.FieldType.{array_of}
use Rattle.je_flow.proofs.classes.push_brackets.Given as goal

-- with those that are left it comes to the same
abbrev pub invariant-loop-left : goal.invariant-loop-left
invariant-loop-left l =
    (t : FieldType) → l.out.items ++ descriptor (array_of l.left t) ≡ l.fn.out.items ++ descriptor (array_of l.fn.dimensions t)

abbrev pub decreases-loop-left : goal.decreases-loop-left
decreases-loop-left l = l.left
