use Rattle.std.proofs.Common.{refl}
use Rattle.std.specs.Int.{int_wrap}
use Rattle.je_machine.proofs.arithmetic.ints_are_computed.Goals as goal

pub returns-clause-sum_wraps : goal.returns-clause-sum_wraps
unfolding int_wrap
returns-clause-sum_wraps c = refl

pub returns-clause-difference : goal.returns-clause-difference
unfolding int_wrap
returns-clause-difference c = refl

pub returns-clause-product_wraps : goal.returns-clause-product_wraps
unfolding int_wrap
returns-clause-product_wraps c = refl

pub returns-clause-quotient : goal.returns-clause-quotient
unfolding int_wrap
returns-clause-quotient c = refl

pub returns-clause-quotient_by_negative : goal.returns-clause-quotient_by_negative
unfolding int_wrap
returns-clause-quotient_by_negative c = refl

pub returns-clause-least_by_minus_one : goal.returns-clause-least_by_minus_one
unfolding int_wrap
returns-clause-least_by_minus_one c = refl

pub returns-clause-remainder : goal.returns-clause-remainder
unfolding int_wrap
returns-clause-remainder c = refl

pub returns-clause-remainder_by_negative : goal.returns-clause-remainder_by_negative
unfolding int_wrap
returns-clause-remainder_by_negative c = refl

pub returns-clause-least_remains_none : goal.returns-clause-least_remains_none
unfolding int_wrap
returns-clause-least_remains_none c = refl

pub returns-clause-divided_by_zero : goal.returns-clause-divided_by_zero
unfolding int_wrap
returns-clause-divided_by_zero c = refl

pub returns-clause-remainder_by_zero : goal.returns-clause-remainder_by_zero
unfolding int_wrap
returns-clause-remainder_by_zero c = refl

pub returns-clause-conjunction : goal.returns-clause-conjunction
unfolding int_wrap
returns-clause-conjunction c = refl

pub returns-clause-disjunction : goal.returns-clause-disjunction
unfolding int_wrap
returns-clause-disjunction c = refl

pub returns-clause-exclusive : goal.returns-clause-exclusive
unfolding int_wrap
returns-clause-exclusive c = refl

pub returns-clause-least_negated : goal.returns-clause-least_negated
unfolding int_wrap
returns-clause-least_negated c = refl
