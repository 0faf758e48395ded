use Rattle.std.proofs.Common.{◌≡◌, ◌++◌, length}
use Rattle.je_shape.specs.Inserted.{inserted}
use Rattle.je_shape.proofs.names.with_name.Given as goal

abbrev pub invariant-loop-first : goal.invariant-loop-first
invariant-loop-first l = l.more.items ++ inserted l.name l.rest ≡ inserted l.name l.names

abbrev pub decreases-loop-first : goal.decreases-loop-first
decreases-loop-first l = length l.rest
