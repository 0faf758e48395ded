use Rattle.std.proofs.Common.{refl}
use Rattle.std.specs.Int.{int_wrap}
use Rattle.je_machine.proofs.shown.classes_are_known.Goals as goal

pub returns-clause-missing : goal.returns-clause-missing
unfolding int_wrap
returns-clause-missing c = λ statics. refl

pub returns-clause-class : goal.returns-clause-class
unfolding int_wrap
returns-clause-class c = λ heap t. refl

pub returns-clause-string : goal.returns-clause-string
unfolding int_wrap
returns-clause-string c = λ heap t. refl

pub returns-clause-handle : goal.returns-clause-handle
unfolding int_wrap
returns-clause-handle c = λ heap k tag c n d. refl

pub returns-clause-method_type : goal.returns-clause-method_type
unfolding int_wrap
returns-clause-method_type c = λ heap t. refl

pub returns-clause-below : goal.returns-clause-below
unfolding int_wrap
returns-clause-below c = refl

pub returns-clause-not_above : goal.returns-clause-not_above
unfolding int_wrap
returns-clause-not_above c = refl

pub returns-clause-all_are_objects : goal.returns-clause-all_are_objects
unfolding int_wrap
returns-clause-all_are_objects c = refl

pub returns-clause-first_holder : goal.returns-clause-first_holder
unfolding int_wrap
returns-clause-first_holder c = refl

pub returns-clause-other_descriptor : goal.returns-clause-other_descriptor
unfolding int_wrap
returns-clause-other_descriptor c = refl

pub returns-clause-instance_of_null : goal.returns-clause-instance_of_null
unfolding int_wrap
returns-clause-instance_of_null c = λ heap. refl

pub returns-clause-object : goal.returns-clause-object
unfolding int_wrap
returns-clause-object c = λ fields others. refl

pub returns-clause-array : goal.returns-clause-array
unfolding int_wrap
returns-clause-array c = λ fields others. refl

pub returns-clause-equal_names : goal.returns-clause-equal_names
unfolding int_wrap
returns-clause-equal_names c = refl

pub returns-clause-not_listed : goal.returns-clause-not_listed
unfolding int_wrap
returns-clause-not_listed c = refl

pub returns-clause-key : goal.returns-clause-key
unfolding int_wrap
returns-clause-key c = refl

pub returns-clause-other_key : goal.returns-clause-other_key
unfolding int_wrap
returns-clause-other_key c = refl

pub returns-clause-component : goal.returns-clause-component
unfolding int_wrap
returns-clause-component c = refl

pub returns-clause-array_component : goal.returns-clause-array_component
unfolding int_wrap
returns-clause-array_component c = refl

pub returns-clause-no_class : goal.returns-clause-no_class
unfolding int_wrap
returns-clause-no_class c = refl

pub returns-clause-not_chained : goal.returns-clause-not_chained
unfolding int_wrap
returns-clause-not_chained c = λ holders. refl
