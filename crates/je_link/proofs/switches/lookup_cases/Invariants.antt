use Rattle.std.proofs.Common.{◌≡◌, take}
use Rattle.je_instr.specs.Resolves.{lookup_cases}
use Rattle.je_link.proofs.switches.lookup_cases.Given as goal

abbrev pub invariant-loop-case : goal.invariant-loop-case
invariant-loop-case l = l.all ≡ lookup_cases (take l.case-index l.cases)
