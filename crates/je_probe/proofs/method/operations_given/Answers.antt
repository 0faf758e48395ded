use Rattle.je_probe.proofs.MethodLemmas.{all_allowed}
use Rattle.je_probe.proofs.method.operations_given.Goals as goal

pub returns-in-Some-clause-none : goal.returns-in-Some-clause-none
returns-in-Some-clause-none c = λ no.
    let found = rw c.in-Some.is at c.in_ok-operations.ensures.found in
    absurd (no (all_allowed c.args.consts.now c.args.instrs.now c.in-Some.operations found))
