use Rattle.std.proofs.Common.{◌-◌, ◌≤◌, length}
use Rattle.je_instr.specs.Decoding.{Follow}
use Rattle.je_instr.proofs.walk.walk.Given as goal

abbrev pub invariant-loop-at : goal.invariant-loop-at
invariant-loop-at l = record { follow : Follow l.consts l.code 0 l.located.items l.starts.items l.at; within : l.at ≤ length l.code }

abbrev pub decreases-loop-at : goal.decreases-loop-at
decreases-loop-at l = length l.code - l.at
