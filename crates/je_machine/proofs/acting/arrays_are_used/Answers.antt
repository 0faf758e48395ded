use Rattle.std.proofs.Common.{refl}
use Rattle.std.specs.Int.{int_wrap}
use Rattle.je_machine.proofs.acting.arrays_are_used.Goals as goal

pub returns-clause-boolean : goal.returns-clause-boolean
unfolding int_wrap
returns-clause-boolean c = λ classes. refl

pub returns-clause-byte : goal.returns-clause-byte
unfolding int_wrap
returns-clause-byte c = λ classes. refl

pub returns-clause-char : goal.returns-clause-char
unfolding int_wrap
returns-clause-char c = λ classes. refl

pub returns-clause-short : goal.returns-clause-short
unfolding int_wrap
returns-clause-short c = λ classes. refl

pub returns-clause-int : goal.returns-clause-int
unfolding int_wrap
returns-clause-int c = λ classes. refl

pub returns-clause-loaded : goal.returns-clause-loaded
unfolding int_wrap
returns-clause-loaded c = λ classes. refl

pub returns-clause-length : goal.returns-clause-length
unfolding int_wrap
returns-clause-length c = λ classes. refl

pub returns-clause-null_first : goal.returns-clause-null_first
unfolding int_wrap
returns-clause-null_first c = λ classes. refl

pub returns-clause-negative_index : goal.returns-clause-negative_index
unfolding int_wrap
returns-clause-negative_index c = λ classes. refl

pub returns-clause-past_the_end : goal.returns-clause-past_the_end
unfolding int_wrap
returns-clause-past_the_end c = λ classes. refl

pub returns-clause-wrong_class : goal.returns-clause-wrong_class
unfolding int_wrap
returns-clause-wrong_class c = refl

pub returns-clause-index_before_class : goal.returns-clause-index_before_class
unfolding int_wrap
returns-clause-index_before_class c = refl

pub returns-clause-null_is_stored : goal.returns-clause-null_is_stored
unfolding int_wrap
returns-clause-null_is_stored c = refl

pub returns-clause-second_element : goal.returns-clause-second_element
unfolding int_wrap
returns-clause-second_element c = λ classes. refl

pub returns-clause-second_loaded : goal.returns-clause-second_loaded
unfolding int_wrap
returns-clause-second_loaded c = λ classes. refl

pub returns-clause-long : goal.returns-clause-long
unfolding int_wrap
returns-clause-long c = λ classes. refl

pub returns-clause-other_kind : goal.returns-clause-other_kind
unfolding int_wrap
returns-clause-other_kind c = λ classes. refl

pub returns-clause-no_array : goal.returns-clause-no_array
unfolding int_wrap
returns-clause-no_array c = λ classes. refl

pub returns-clause-no_object : goal.returns-clause-no_object
unfolding int_wrap
returns-clause-no_object c = λ classes. refl

pub returns-clause-constant : goal.returns-clause-constant
unfolding int_wrap
returns-clause-constant c = λ classes. refl

pub returns-clause-subclass_is_stored : goal.returns-clause-subclass_is_stored
unfolding int_wrap
returns-clause-subclass_is_stored c = refl

pub returns-clause-superclass_is_not : goal.returns-clause-superclass_is_not
unfolding int_wrap
returns-clause-superclass_is_not c = refl

pub returns-clause-array_is_stored : goal.returns-clause-array_is_stored
unfolding int_wrap
returns-clause-array_is_stored c = λ classes. refl

pub returns-clause-no_references : goal.returns-clause-no_references
unfolding int_wrap
returns-clause-no_references c = λ classes. refl

pub returns-clause-wide_element : goal.returns-clause-wide_element
unfolding int_wrap
returns-clause-wide_element c = λ classes. refl
