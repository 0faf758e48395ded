use Rattle.je_shape.proofs.CanonicalLemmas.{one_known}
use Rattle.je_shape.proofs.LeastLemmas.{least_below, same_faults, one_first}
use Rattle.je_shape.proofs.least.one_least.Goals as goal

pub returns-clause-below : goal.returns-clause-below
returns-clause-below c = least_below

pub returns-clause-same : goal.returns-clause-same
returns-clause-same c = λ m x y h k at a b. one_known (x at) (y at) a b (least_below m x y h k at) (least_below m y x k h at)

pub returns-clause-faults : goal.returns-clause-faults
returns-clause-faults c = same_faults

pub returns-clause-first : goal.returns-clause-first
returns-clause-first c = one_first
