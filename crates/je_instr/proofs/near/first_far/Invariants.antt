use Rattle.std.proofs.Common.{◌≡◌, ℕ, ◌+◌, ◌-◌, length}
use Rattle.std.specs.List.{AllByRecursion}
use Rattle.je_instr.specs.Assembling.{AreNear, IsFirstFar}
use Rattle.je_instr.specs.CodeProgram.{HasTargets}
use Rattle.je_instr.specs.Shortest.{short_end}
use Rattle.je_instr.proofs.near.first_far.Given as goal

abbrev pub invariant-loop-instr : goal.invariant-loop-instr
invariant-loop-instr l = record {
  end : short_end l.at l.rest ≡ short_end 0 l.instrs;
  long : l.index + length l.rest ≡ length l.instrs;
  targets : AllByRecursion (HasTargets (length l.offsets - 1)) l.rest;
  first : (index : ℕ) → IsFirstFar l.offsets l.at l.rest l.index index → IsFirstFar l.offsets 0 l.instrs 0 index;
  near : AreNear l.offsets l.at l.rest → AreNear l.offsets 0 l.instrs;
}

abbrev pub decreases-loop-instr : goal.decreases-loop-instr
decreases-loop-instr l = length l.rest
