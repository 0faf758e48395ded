use Rattle.std.proofs.Common.{◌≡◌, ◌-◌, ◌++◌, length}
use Rattle.std.specs.List.{AllByRecursion}
use Rattle.je_instr.specs.Assembling.{IsInRange, AreNear}
use Rattle.je_instr.specs.CodeProgram.{HasTargets}
use Rattle.je_instr.specs.Offsets.{HasWidths}
use Rattle.je_instr.specs.Shortest.{short_end, short_code}
use Rattle.je_instr.proofs.shortest.put_all.Given as goal

abbrev pub invariant-loop-instr : goal.invariant-loop-instr
invariant-loop-instr l = record {
  bytes : l.out.items ++ short_code l.offsets l.at l.rest ≡ l.initial.out.items ++ short_code l.offsets 0 l.instrs;
  widths : AllByRecursion HasWidths l.rest → AllByRecursion HasWidths l.instrs;
  end : short_end l.at l.rest ≡ short_end 0 l.instrs;
  targets : AllByRecursion (HasTargets (length l.offsets - 1)) l.rest;
  operands : AllByRecursion IsInRange l.rest;
  near : AreNear l.offsets l.at l.rest;
}

abbrev pub decreases-loop-instr : goal.decreases-loop-instr
decreases-loop-instr l = length l.rest
