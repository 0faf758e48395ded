use Rattle.std.proofs.Common.{refl}
use Rattle.std.specs.Int.{int_wrap}
use Rattle.je_machine.proofs.rows.long_bit_rows.Goals as goal

pub returns-clause-conjunctions : goal.returns-clause-conjunctions
unfolding int_wrap
returns-clause-conjunctions c = refl

pub returns-clause-disjunctions : goal.returns-clause-disjunctions
unfolding int_wrap
returns-clause-disjunctions c = refl

pub returns-clause-exclusives : goal.returns-clause-exclusives
unfolding int_wrap
returns-clause-exclusives c = refl

pub returns-clause-left : goal.returns-clause-left
unfolding int_wrap
returns-clause-left c = refl

pub returns-clause-right : goal.returns-clause-right
unfolding int_wrap
returns-clause-right c = refl

pub returns-clause-right_unsigned : goal.returns-clause-right_unsigned
unfolding int_wrap
returns-clause-right_unsigned c = refl

pub returns-clause-truncated : goal.returns-clause-truncated
unfolding int_wrap
returns-clause-truncated c = refl

pub returns-clause-compared : goal.returns-clause-compared
unfolding int_wrap
returns-clause-compared c = refl
