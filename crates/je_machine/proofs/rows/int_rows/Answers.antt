use Rattle.std.proofs.Common.{refl}
use Rattle.std.specs.Int.{int_wrap}
use Rattle.je_machine.proofs.rows.int_rows.Goals as goal

pub returns-clause-sums : goal.returns-clause-sums
unfolding int_wrap
returns-clause-sums c = refl

pub returns-clause-differences : goal.returns-clause-differences
unfolding int_wrap
returns-clause-differences c = refl

pub returns-clause-products : goal.returns-clause-products
unfolding int_wrap
returns-clause-products c = refl

pub returns-clause-quotients : goal.returns-clause-quotients
unfolding int_wrap
returns-clause-quotients c = refl

pub returns-clause-remainders : goal.returns-clause-remainders
unfolding int_wrap
returns-clause-remainders c = refl

pub returns-clause-divided_by_zero : goal.returns-clause-divided_by_zero
unfolding int_wrap
returns-clause-divided_by_zero c x = refl

pub returns-clause-remainder_by_zero : goal.returns-clause-remainder_by_zero
unfolding int_wrap
returns-clause-remainder_by_zero c x = refl

pub returns-clause-negations : goal.returns-clause-negations
unfolding int_wrap
returns-clause-negations c = refl
