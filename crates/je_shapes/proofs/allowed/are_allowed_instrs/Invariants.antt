use Rattle.std.proofs.Common.{◌↔◌, length}
use Rattle.std.specs.List.{AllByRecursion}
use Rattle.je_instr.specs.Allowed.{IsAllowed}
use Rattle.je_shapes.proofs.allowed.are_allowed_instrs.Given as goal

abbrev pub invariant-loop-instr : goal.invariant-loop-instr
invariant-loop-instr l = AllByRecursion (IsAllowed l.consts) l.rest ↔ AllByRecursion (IsAllowed l.consts) l.instrs

abbrev pub decreases-loop-instr : goal.decreases-loop-instr
decreases-loop-instr l = length l.rest
