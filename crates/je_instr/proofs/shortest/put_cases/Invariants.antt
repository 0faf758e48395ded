use Rattle.std.proofs.Common.{◌≡◌, ◌++◌, ◌<◌, length, FitsSigned, w32}
use Rattle.std.specs.List.{AllByRecursion, flat_map}
use Rattle.je_instr.specs.declared.instr.Case.{Case}
use Rattle.je_instr.specs.Shortest.{case_bytes}
use Rattle.je_instr.proofs.shortest.put_cases.Given as goal

abbrev pub invariant-loop-case : goal.invariant-loop-case
invariant-loop-case l = record {
  bytes : l.out.items ++ flat_map (case_bytes l.offsets l.at) l.rest ≡ l.initial.out.items ++ flat_map (case_bytes l.offsets l.at) l.cases;
  widths : AllByRecursion (λ (c : Case). FitsSigned w32 c.key) l.rest → AllByRecursion (λ (c : Case). FitsSigned w32 c.key) l.cases;
  within : AllByRecursion (λ (c : Case). c.target < length l.offsets) l.rest;
}

abbrev pub decreases-loop-case : goal.decreases-loop-case
decreases-loop-case l = length l.rest
