use Rattle.std.proofs.Common.{refl}
use Rattle.std.specs.Int.{int_wrap}
use Rattle.je_machine.proofs.arithmetic.ints_are_shifted.Goals as goal

pub returns-clause-left : goal.returns-clause-left
unfolding int_wrap
returns-clause-left c = refl

pub returns-clause-left_by_minus_one : goal.returns-clause-left_by_minus_one
unfolding int_wrap
returns-clause-left_by_minus_one c = refl

pub returns-clause-right : goal.returns-clause-right
unfolding int_wrap
returns-clause-right c = refl

pub returns-clause-right_unsigned : goal.returns-clause-right_unsigned
unfolding int_wrap
returns-clause-right_unsigned c = refl

pub returns-clause-not_at_all : goal.returns-clause-not_at_all
unfolding int_wrap
returns-clause-not_at_all c = refl

pub returns-clause-extended : goal.returns-clause-extended
unfolding int_wrap
returns-clause-extended c = refl

pub returns-clause-byte : goal.returns-clause-byte
unfolding int_wrap
returns-clause-byte c = refl

pub returns-clause-char : goal.returns-clause-char
unfolding int_wrap
returns-clause-char c = refl

pub returns-clause-short : goal.returns-clause-short
unfolding int_wrap
returns-clause-short c = refl
