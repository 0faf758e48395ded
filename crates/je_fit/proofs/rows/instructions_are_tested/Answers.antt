use Rattle.std.proofs.Common.{refl}
use Rattle.std.specs.Int.{int_wrap}
use Rattle.je_fit.proofs.rows.instructions_are_tested.Goals as goal

pub returns-clause-long_copied : goal.returns-clause-long_copied
unfolding int_wrap
returns-clause-long_copied c = λ classes o. refl

pub returns-clause-two_copied : goal.returns-clause-two_copied
unfolding int_wrap
returns-clause-two_copied c = λ classes o. refl

pub returns-clause-over_long : goal.returns-clause-over_long
unfolding int_wrap
returns-clause-over_long c = λ classes o. refl

pub returns-clause-no_result : goal.returns-clause-no_result
unfolding int_wrap
returns-clause-no_result c = λ classes heap after. refl
