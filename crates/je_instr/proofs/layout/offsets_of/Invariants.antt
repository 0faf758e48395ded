use Rattle.std.proofs.Common.{◌≡◌, ◌++◌, length}
use Rattle.je_instr.specs.Shortest.{short_end, short_offsets}
use Rattle.je_instr.proofs.layout.offsets_of.Given as goal

abbrev pub invariant-loop-instr : goal.invariant-loop-instr
invariant-loop-instr l = record {
  end : short_end l.at l.rest ≡ short_end 0 l.instrs;
  all : l.offsets.items ++ short_offsets l.at l.rest ≡ short_offsets 0 l.instrs;
}

abbrev pub decreases-loop-instr : goal.decreases-loop-instr
decreases-loop-instr l = length l.rest
