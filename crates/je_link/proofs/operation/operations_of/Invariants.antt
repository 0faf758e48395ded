use Rattle.std.proofs.Common.{length}
use Rattle.std.specs.List.{AllByRecursion}
use Rattle.je_instr.specs.Allowed.{IsAllowed}
use Rattle.je_instr.specs.Resolves.{Resolves}
use Rattle.je_instr.proofs.ZipLemmas.{Reached}
use Rattle.je_link.proofs.operation.operations_of.Given as goal

abbrev pub invariant-loop-rest : goal.invariant-loop-rest
invariant-loop-rest l = record {
  reached : Reached (Resolves l.consts) l.instrs l.rest l.operations;
  allowed : AllByRecursion (IsAllowed l.consts) l.instrs → AllByRecursion (IsAllowed l.consts) l.rest;
}

abbrev pub decreases-loop-rest : goal.decreases-loop-rest
decreases-loop-rest l = length l.rest
