use Rattle.std.proofs.Common.{◌≡◌, ◌+◌, length}
use Rattle.je_instr.specs.OpcodeTests.{brackets}
use Rattle.je_instr.proofs.texts.brackets.Given as goal

abbrev pub invariant-loop-rest : goal.invariant-loop-rest
invariant-loop-rest l = record { all : l.count + brackets l.rest ≡ brackets l.text; size : l.count + length l.rest ≡ length l.text }

abbrev pub decreases-loop-rest : goal.decreases-loop-rest
decreases-loop-rest l = length l.rest
