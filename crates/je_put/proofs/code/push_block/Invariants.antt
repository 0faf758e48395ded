use Rattle.std.proofs.Common.{◌≡◌, ◌++◌, length, map, ◌+◌}
use Rattle.je_splice.specs.InstrCodes.{redirected}
use Rattle.je_put.proofs.code.push_block.Given as goal

abbrev pub invariant-loop-instr : goal.invariant-loop-instr
invariant-loop-instr l =
    l.out.items ++ map (redirected (λ target. l.at + target)) l.rest
    ≡ l.fn.out.items ++ map (redirected (λ target. l.at + target)) l.instrs

abbrev pub decreases-loop-instr : goal.decreases-loop-instr
decreases-loop-instr l = length l.rest
