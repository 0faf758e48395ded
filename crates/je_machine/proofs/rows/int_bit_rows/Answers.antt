use Rattle.std.proofs.Common.{refl}
use Rattle.std.specs.Int.{int_wrap}
use Rattle.je_machine.proofs.rows.int_bit_rows.Goals as goal

pub returns-clause-conjunctions : goal.returns-clause-conjunctions
unfolding int_wrap
returns-clause-conjunctions c = refl

pub returns-clause-disjunctions : goal.returns-clause-disjunctions
unfolding int_wrap
returns-clause-disjunctions c = refl

pub returns-clause-exclusives : goal.returns-clause-exclusives
unfolding int_wrap
returns-clause-exclusives c = refl

pub returns-clause-left : goal.returns-clause-left
unfolding int_wrap
returns-clause-left c = refl

pub returns-clause-right : goal.returns-clause-right
unfolding int_wrap
returns-clause-right c = refl

pub returns-clause-right_unsigned : goal.returns-clause-right_unsigned
unfolding int_wrap
returns-clause-right_unsigned c = refl

pub returns-clause-extended : goal.returns-clause-extended
unfolding int_wrap
returns-clause-extended c = refl

pub returns-clause-bytes : goal.returns-clause-bytes
unfolding int_wrap
returns-clause-bytes c = refl

pub returns-clause-chars : goal.returns-clause-chars
unfolding int_wrap
returns-clause-chars c = refl

pub returns-clause-shorts : goal.returns-clause-shorts
unfolding int_wrap
returns-clause-shorts c = refl
