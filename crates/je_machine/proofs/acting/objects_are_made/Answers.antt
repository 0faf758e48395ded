use Rattle.std.proofs.Common.{refl}
use Rattle.std.specs.Int.{int_wrap}
use Rattle.je_machine.proofs.acting.objects_are_made.Goals as goal

pub returns-clause-object : goal.returns-clause-object
unfolding int_wrap
returns-clause-object c = λ classes. refl

pub returns-clause-array : goal.returns-clause-array
unfolding int_wrap
returns-clause-array c = λ classes. refl

pub returns-clause-negative_size : goal.returns-clause-negative_size
unfolding int_wrap
returns-clause-negative_size c = λ classes. refl

pub returns-clause-any_negative : goal.returns-clause-any_negative
unfolding int_wrap
returns-clause-any_negative c = λ classes. refl

pub returns-clause-elements_first : goal.returns-clause-elements_first
unfolding int_wrap
returns-clause-elements_first c = λ classes. refl

pub returns-clause-cast : goal.returns-clause-cast
unfolding int_wrap
returns-clause-cast c = refl

pub returns-clause-wrong_cast : goal.returns-clause-wrong_cast
unfolding int_wrap
returns-clause-wrong_cast c = refl

pub returns-clause-null_cast : goal.returns-clause-null_cast
unfolding int_wrap
returns-clause-null_cast c = refl

pub returns-clause-instance : goal.returns-clause-instance
unfolding int_wrap
returns-clause-instance c = refl

pub returns-clause-null_is_none : goal.returns-clause-null_is_none
unfolding int_wrap
returns-clause-null_is_none c = refl

pub returns-clause-by_zero : goal.returns-clause-by_zero
unfolding int_wrap
returns-clause-by_zero c = λ classes. refl

pub returns-clause-both_elements : goal.returns-clause-both_elements
unfolding int_wrap
returns-clause-both_elements c = λ classes. refl

pub returns-clause-no_elements : goal.returns-clause-no_elements
unfolding int_wrap
returns-clause-no_elements c = λ classes. refl

pub returns-clause-outer_dimensions : goal.returns-clause-outer_dimensions
unfolding int_wrap
returns-clause-outer_dimensions c = λ classes. refl

pub returns-clause-longs : goal.returns-clause-longs
unfolding int_wrap
returns-clause-longs c = λ classes. refl

pub returns-clause-references : goal.returns-clause-references
unfolding int_wrap
returns-clause-references c = λ classes. refl

pub returns-clause-constant_cast : goal.returns-clause-constant_cast
unfolding int_wrap
returns-clause-constant_cast c = λ classes. refl

pub returns-clause-no_instance : goal.returns-clause-no_instance
unfolding int_wrap
returns-clause-no_instance c = refl
