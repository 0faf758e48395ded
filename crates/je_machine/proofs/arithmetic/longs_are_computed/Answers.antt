use Rattle.std.proofs.Common.{refl}
use Rattle.std.specs.Int.{int_wrap}
use Rattle.je_machine.proofs.arithmetic.longs_are_computed.Goals as goal

pub returns-clause-sum_wraps : goal.returns-clause-sum_wraps
unfolding int_wrap
returns-clause-sum_wraps c = refl

pub returns-clause-product : goal.returns-clause-product
unfolding int_wrap
returns-clause-product c = refl

pub returns-clause-least_by_minus_one : goal.returns-clause-least_by_minus_one
unfolding int_wrap
returns-clause-least_by_minus_one c = refl

pub returns-clause-remainder : goal.returns-clause-remainder
unfolding int_wrap
returns-clause-remainder c = refl

pub returns-clause-divided_by_zero : goal.returns-clause-divided_by_zero
unfolding int_wrap
returns-clause-divided_by_zero c = refl

pub returns-clause-left : goal.returns-clause-left
unfolding int_wrap
returns-clause-left c = refl

pub returns-clause-right : goal.returns-clause-right
unfolding int_wrap
returns-clause-right c = refl

pub returns-clause-right_unsigned : goal.returns-clause-right_unsigned
unfolding int_wrap
returns-clause-right_unsigned c = refl

pub returns-clause-truncated : goal.returns-clause-truncated
unfolding int_wrap
returns-clause-truncated c = refl

pub returns-clause-less : goal.returns-clause-less
unfolding int_wrap
returns-clause-less c = refl

pub returns-clause-equal : goal.returns-clause-equal
unfolding int_wrap
returns-clause-equal c = refl

pub returns-clause-greater : goal.returns-clause-greater
unfolding int_wrap
returns-clause-greater c = refl
