use Rattle.std.proofs.Common.{refl}
use Rattle.std.specs.Int.{int_wrap}
use Rattle.je_machine.proofs.shown.conditions_are_met.Goals as goal

pub returns-clause-zero : goal.returns-clause-zero
unfolding int_wrap
returns-clause-zero c = refl

pub returns-clause-negative : goal.returns-clause-negative
unfolding int_wrap
returns-clause-negative c = refl

pub returns-clause-not_negative : goal.returns-clause-not_negative
unfolding int_wrap
returns-clause-not_negative c = refl

pub returns-clause-positive : goal.returns-clause-positive
unfolding int_wrap
returns-clause-positive c = refl

pub returns-clause-zero_is_not : goal.returns-clause-zero_is_not
unfolding int_wrap
returns-clause-zero_is_not c = refl

pub returns-clause-order : goal.returns-clause-order
unfolding int_wrap
returns-clause-order c = refl

pub returns-clause-other_order : goal.returns-clause-other_order
unfolding int_wrap
returns-clause-other_order c = refl

pub returns-clause-null : goal.returns-clause-null
unfolding int_wrap
returns-clause-null c = refl

pub returns-clause-objects : goal.returns-clause-objects
unfolding int_wrap
returns-clause-objects c = refl

pub returns-clause-other_objects : goal.returns-clause-other_objects
unfolding int_wrap
returns-clause-other_objects c = refl

pub returns-clause-one_constant : goal.returns-clause-one_constant
unfolding int_wrap
returns-clause-one_constant c = refl

pub returns-clause-two_constants : goal.returns-clause-two_constants
unfolding int_wrap
returns-clause-two_constants c = refl

pub returns-clause-first_case : goal.returns-clause-first_case
unfolding int_wrap
returns-clause-first_case c = refl

pub returns-clause-second_case : goal.returns-clause-second_case
unfolding int_wrap
returns-clause-second_case c = refl

pub returns-clause-no_case : goal.returns-clause-no_case
unfolding int_wrap
returns-clause-no_case c = refl

pub returns-clause-less : goal.returns-clause-less
unfolding int_wrap
returns-clause-less c = refl

pub returns-clause-equal : goal.returns-clause-equal
unfolding int_wrap
returns-clause-equal c = refl

pub returns-clause-greater : goal.returns-clause-greater
unfolding int_wrap
returns-clause-greater c = refl

pub returns-clause-below_zero : goal.returns-clause-below_zero
unfolding int_wrap
returns-clause-below_zero c = refl

pub returns-clause-at_zero : goal.returns-clause-at_zero
unfolding int_wrap
returns-clause-at_zero c = refl

pub returns-clause-above_zero : goal.returns-clause-above_zero
unfolding int_wrap
returns-clause-above_zero c = refl

pub returns-clause-not_null : goal.returns-clause-not_null
unfolding int_wrap
returns-clause-not_null c = refl

pub returns-clause-one_object : goal.returns-clause-one_object
unfolding int_wrap
returns-clause-one_object c = refl

pub returns-clause-two_nulls : goal.returns-clause-two_nulls
unfolding int_wrap
returns-clause-two_nulls c = refl

pub returns-clause-null_and_object : goal.returns-clause-null_and_object
unfolding int_wrap
returns-clause-null_and_object c = refl

pub returns-clause-object_and_constant : goal.returns-clause-object_and_constant
unfolding int_wrap
returns-clause-object_and_constant c = refl

pub returns-clause-other_content : goal.returns-clause-other_content
unfolding int_wrap
returns-clause-other_content c = refl

pub returns-clause-class_and_type : goal.returns-clause-class_and_type
unfolding int_wrap
returns-clause-class_and_type c = refl

pub returns-clause-one_type : goal.returns-clause-one_type
unfolding int_wrap
returns-clause-one_type c = refl

pub returns-clause-handles : goal.returns-clause-handles
unfolding int_wrap
returns-clause-handles c = refl

pub returns-clause-other_class : goal.returns-clause-other_class
unfolding int_wrap
returns-clause-other_class c = refl

pub returns-clause-other_type : goal.returns-clause-other_type
unfolding int_wrap
returns-clause-other_type c = refl
