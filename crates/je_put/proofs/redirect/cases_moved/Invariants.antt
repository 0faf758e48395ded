use Rattle.std.proofs.Common.{◌≡◌, ◌++◌, length, map}
use Rattle.std.specs.List.{AllByRecursion}
use Rattle.je_instr.specs.declared.instr.Case.{Case}
use Rattle.je_splice.specs.InstrCodes.{redirected_case}
use Rattle.je_put.specs.Moving.{moved_by, IsKnownTo}
use Rattle.je_put.proofs.redirect.cases_moved.Given as goal

abbrev pub invariant-loop-rest : goal.invariant-loop-rest
invariant-loop-rest l = record {
  known : AllByRecursion (λ (c : Case). IsKnownTo l.fn.to c.target) l.rest;
  whole : l.out.items ++ map (redirected_case (moved_by l.fn.to)) l.rest ≡ map (redirected_case (moved_by l.fn.to)) l.fn.cases;
}

abbrev pub decreases-loop-rest : goal.decreases-loop-rest
decreases-loop-rest l = length l.rest
