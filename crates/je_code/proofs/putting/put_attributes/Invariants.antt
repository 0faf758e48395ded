use Rattle.std.proofs.Common.{length}
use Rattle.je_code.proofs.PutLemmas.{Stand}
use Rattle.je_code.proofs.putting.put_attributes.Given as goal

abbrev pub invariant-loop-named : goal.invariant-loop-named
invariant-loop-named l = Stand l.all l.fn.consts l.fn.out.items l.rest l.consts l.out.items

abbrev pub decreases-loop-named : goal.decreases-loop-named
decreases-loop-named l = length l.rest
