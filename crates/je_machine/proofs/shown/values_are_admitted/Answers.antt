use Rattle.std.proofs.Common.{refl}
use Rattle.std.specs.Int.{int_wrap}
use Rattle.je_machine.proofs.shown.values_are_admitted.Goals as goal

pub returns-clause-reference : goal.returns-clause-reference
unfolding int_wrap
returns-clause-reference c = refl

pub returns-clause-greatest_int : goal.returns-clause-greatest_int
unfolding int_wrap
returns-clause-greatest_int c = refl

pub returns-clause-least_int : goal.returns-clause-least_int
unfolding int_wrap
returns-clause-least_int c = refl

pub returns-clause-above_ints : goal.returns-clause-above_ints
unfolding int_wrap
returns-clause-above_ints c = refl

pub returns-clause-below_ints : goal.returns-clause-below_ints
unfolding int_wrap
returns-clause-below_ints c = refl

pub returns-clause-greatest_long : goal.returns-clause-greatest_long
unfolding int_wrap
returns-clause-greatest_long c = refl

pub returns-clause-above_longs : goal.returns-clause-above_longs
unfolding int_wrap
returns-clause-above_longs c = refl

pub returns-clause-float_for_int : goal.returns-clause-float_for_int
unfolding int_wrap
returns-clause-float_for_int c = refl

pub returns-clause-float_bits : goal.returns-clause-float_bits
unfolding int_wrap
returns-clause-float_bits c = refl

pub returns-clause-no_reference : goal.returns-clause-no_reference
unfolding int_wrap
returns-clause-no_reference c = λ n. refl

pub returns-clause-missing : goal.returns-clause-missing
unfolding int_wrap
returns-clause-missing c = refl

pub returns-clause-too_many : goal.returns-clause-too_many
unfolding int_wrap
returns-clause-too_many c = refl

pub returns-clause-least_long : goal.returns-clause-least_long
unfolding int_wrap
returns-clause-least_long c = refl

pub returns-clause-below_longs : goal.returns-clause-below_longs
unfolding int_wrap
returns-clause-below_longs c = refl

pub returns-clause-int_for_long : goal.returns-clause-int_for_long
unfolding int_wrap
returns-clause-int_for_long c = refl

pub returns-clause-null_for_double : goal.returns-clause-null_for_double
unfolding int_wrap
returns-clause-null_for_double c = refl

pub returns-clause-greatest_float_bits : goal.returns-clause-greatest_float_bits
unfolding int_wrap
returns-clause-greatest_float_bits c = refl

pub returns-clause-double_bits : goal.returns-clause-double_bits
unfolding int_wrap
returns-clause-double_bits c = refl

pub returns-clause-greatest_double_bits : goal.returns-clause-greatest_double_bits
unfolding int_wrap
returns-clause-greatest_double_bits c = refl

pub returns-clause-object : goal.returns-clause-object
unfolding int_wrap
returns-clause-object c = λ number. refl

pub returns-clause-string : goal.returns-clause-string
unfolding int_wrap
returns-clause-string c = λ t. refl

pub returns-clause-method_type : goal.returns-clause-method_type
unfolding int_wrap
returns-clause-method_type c = λ t. refl
