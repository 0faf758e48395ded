use Rattle.std.proofs.Common.{◌≡◌, ◌++◌, ◌≤◌, pos, ◌+ℤ◌, length}
use Rattle.je_instr.specs.Resolves.{table_cases}
use Rattle.je_link.proofs.switches.table_cases.Given as goal

-- the cases so far and those of the targets that come are all
abbrev pub invariant-loop-target : goal.invariant-loop-target
invariant-loop-target l = record {
  all : l.cases ++ table_cases l.key l.rest ≡ table_cases l.fn.low l.targets;
  key : l.key +ℤ pos (length l.rest) ≡ l.fn.low +ℤ pos (length l.targets);
  behind : length l.rest ≤ length l.targets;
}

abbrev pub decreases-loop-target : goal.decreases-loop-target
decreases-loop-target l = length l.rest
