use Rattle.std.proofs.Common.{[], refl}
use Rattle.std.specs.Prelude.{codes}
use Rattle.std.specs.Int.{int_wrap}
use Rattle.je_machine.specs.Content.{Str}
use Rattle.je_machine.specs.Value.{Obj, Const}
use Rattle.je_machine.specs.Heap.{new_instance}
use Rattle.je_machine.specs.Sample.{bytes, one_object, long_field}
use Rattle.je_machine.proofs.OutsideLemmas.{static_got, static_put, field_got, field_put, zero_got}
use Rattle.je_machine.proofs.fields.fields_are_used.Goals as goal

pub returns-clause-get_static : goal.returns-clause-get_static
returns-clause-get_static c = static_got

pub returns-clause-put_static : goal.returns-clause-put_static
returns-clause-put_static c = static_put

pub returns-clause-get : goal.returns-clause-get
returns-clause-get c = field_got

pub returns-clause-put : goal.returns-clause-put
returns-clause-put c = field_put

pub returns-clause-get_missing : goal.returns-clause-get_missing
returns-clause-get_missing c = λ classes. zero_got classes long_field (Obj 5) (one_object bytes) refl refl refl

pub returns-clause-get_array : goal.returns-clause-get_array
returns-clause-get_array c = λ classes. zero_got classes long_field (Obj 0) (one_object bytes) refl refl refl

pub returns-clause-get_constant : goal.returns-clause-get_constant
returns-clause-get_constant c = λ classes. zero_got classes long_field (Const (Str [])) (one_object bytes) refl refl refl

pub returns-clause-put_missing : goal.returns-clause-put_missing
unfolding int_wrap
returns-clause-put_missing c = λ classes. refl

pub returns-clause-put_array : goal.returns-clause-put_array
unfolding int_wrap
returns-clause-put_array c = λ classes. refl

pub returns-clause-put_constant : goal.returns-clause-put_constant
unfolding int_wrap
returns-clause-put_constant c = λ classes. refl

pub returns-clause-get_new : goal.returns-clause-get_new
returns-clause-get_new c = λ classes. zero_got classes long_field (Obj 0) (one_object (new_instance (codes "C"))) refl refl refl
