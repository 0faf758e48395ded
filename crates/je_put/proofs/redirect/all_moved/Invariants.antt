use Rattle.std.proofs.Common.{◌≡◌, ◌++◌, length, map}
use Rattle.std.specs.List.{AllByRecursion}
use Rattle.je_put.specs.Moving.{moved_by, IsKnownTo}
use Rattle.je_put.proofs.redirect.all_moved.Given as goal

abbrev pub invariant-loop-rest : goal.invariant-loop-rest
invariant-loop-rest l = record {
  known : AllByRecursion (IsKnownTo l.fn.to) l.rest;
  whole : l.out.items ++ map (moved_by l.fn.to) l.rest ≡ map (moved_by l.fn.to) l.fn.targets;
}

abbrev pub decreases-loop-rest : goal.decreases-loop-rest
decreases-loop-rest l = length l.rest
