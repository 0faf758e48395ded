use Rattle.std.proofs.Common.{refl}
use Rattle.std.specs.Int.{int_wrap}
use Rattle.je_fit.proofs.rows.endings_are_tested.Goals as goal

pub returns-clause-nothing : goal.returns-clause-nothing
unfolding int_wrap
returns-clause-nothing c = (refl, refl)

pub returns-clause-no_result : goal.returns-clause-no_result
unfolding int_wrap
returns-clause-no_result c = λ v h. absurd (let e = h.0 in cc)

pub returns-clause-result : goal.returns-clause-result
unfolding int_wrap
returns-clause-result c = (refl, refl)

pub returns-clause-other_kind : goal.returns-clause-other_kind
unfolding int_wrap
returns-clause-other_kind c = λ n h. absurd (let e = h.0 in cc)

pub returns-clause-other_method : goal.returns-clause-other_method
unfolding int_wrap
returns-clause-other_method c = λ v h. absurd (let e = h.1 in cc)

pub returns-clause-thrown : goal.returns-clause-thrown
unfolding int_wrap
returns-clause-thrown c = λ m n. refl

pub returns-clause-no_null : goal.returns-clause-no_null
unfolding int_wrap
returns-clause-no_null c = λ m h. absurd cc

pub returns-clause-no_number : goal.returns-clause-no_number
unfolding int_wrap
returns-clause-no_number c = λ m n h. absurd cc

pub returns-clause-goes_on : goal.returns-clause-goes_on
unfolding int_wrap
returns-clause-goes_on c = λ m left locals o. tt

pub returns-clause-ended : goal.returns-clause-ended
unfolding int_wrap
returns-clause-ended c = λ m left locals o h. absurd cc

pub returns-clause-stopped : goal.returns-clause-stopped
unfolding int_wrap
returns-clause-stopped c = λ m x left locals o h. absurd cc
