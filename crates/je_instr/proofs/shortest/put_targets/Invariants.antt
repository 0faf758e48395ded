use Rattle.std.proofs.Common.{◌≡◌, ◌++◌, ◌<◌, length}
use Rattle.std.specs.List.{AllByRecursion, flat_map}
use Rattle.je_instr.specs.Shortest.{target_bytes}
use Rattle.je_instr.proofs.shortest.put_targets.Given as goal

abbrev pub invariant-loop-target : goal.invariant-loop-target
invariant-loop-target l = record {
  bytes : l.out.items ++ flat_map (target_bytes l.offsets l.at) l.rest ≡ l.initial.out.items ++ flat_map (target_bytes l.offsets l.at) l.targets;
  within : AllByRecursion (λ target. target < length l.offsets) l.rest;
}

abbrev pub decreases-loop-target : goal.decreases-loop-target
decreases-loop-target l = length l.rest
