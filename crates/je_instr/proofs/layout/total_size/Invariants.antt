use Rattle.std.proofs.Common.{◌≡◌, ◌-◌, ◌^◌, min, length}
use Rattle.je_instr.specs.Shortest.{short_end}
use Rattle.je_instr.proofs.layout.total_size.Given as goal

abbrev pub invariant-loop-instr : goal.invariant-loop-instr
invariant-loop-instr l = min (short_end l.at l.rest) (2 ^ 32 - 1) ≡ min (short_end 0 l.instrs) (2 ^ 32 - 1)

abbrev pub decreases-loop-instr : goal.decreases-loop-instr
decreases-loop-instr l = length l.rest
