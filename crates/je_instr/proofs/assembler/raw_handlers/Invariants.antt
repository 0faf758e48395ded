use Rattle.std.proofs.Common.{◌≡◌, ◌-◌, ◌++◌, length, map}
use Rattle.std.specs.List.{AllByRecursion}
use Rattle.je_instr.specs.Assembling.{IsWithinProgram, raw_handler}
use Rattle.je_instr.proofs.assembler.raw_handlers.Given as goal

abbrev pub invariant-loop-handler : goal.invariant-loop-handler
invariant-loop-handler l = record {
  all : l.table.items ++ map (raw_handler l.offsets) l.rest ≡ map (raw_handler l.offsets) l.handlers;
  within : AllByRecursion (IsWithinProgram (length l.offsets - 1)) l.rest;
}

abbrev pub decreases-loop-handler : goal.decreases-loop-handler
decreases-loop-handler l = length l.rest
