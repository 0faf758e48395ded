use Rattle.std.proofs.Common.{refl}
use Rattle.std.specs.Int.{int_wrap}
use Rattle.je_machine.proofs.acting.answers_are_taken.Goals as goal

pub returns-clause-call : goal.returns-clause-call
unfolding int_wrap
returns-clause-call c = λ classes heap after. refl

pub returns-clause-other_kind : goal.returns-clause-other_kind
unfolding int_wrap
returns-clause-other_kind c = λ classes heap after. refl

pub returns-clause-throws : goal.returns-clause-throws
unfolding int_wrap
returns-clause-throws c = λ classes heap after. refl

pub returns-clause-throws_null : goal.returns-clause-throws_null
unfolding int_wrap
returns-clause-throws_null c = λ classes heap fields. refl

pub returns-clause-waits : goal.returns-clause-waits
unfolding int_wrap
returns-clause-waits c = λ classes heap. refl

pub returns-clause-null_target : goal.returns-clause-null_target
unfolding int_wrap
returns-clause-null_target c = λ classes fields answers. refl

pub returns-clause-float : goal.returns-clause-float
unfolding int_wrap
returns-clause-float c = λ classes heap after. refl

pub returns-clause-float_thrown : goal.returns-clause-float_thrown
unfolding int_wrap
returns-clause-float_thrown c = λ classes heap after. refl

pub returns-clause-float_waits : goal.returns-clause-float_waits
unfolding int_wrap
returns-clause-float_waits c = λ classes heap. refl

pub returns-clause-monitor : goal.returns-clause-monitor
unfolding int_wrap
returns-clause-monitor c = λ classes heap answers. refl

pub returns-clause-monitor_left : goal.returns-clause-monitor_left
unfolding int_wrap
returns-clause-monitor_left c = λ classes heap answers. refl

pub returns-clause-operand_kinds : goal.returns-clause-operand_kinds
unfolding int_wrap
returns-clause-operand_kinds c = λ class name. refl

pub returns-clause-target : goal.returns-clause-target
unfolding int_wrap
returns-clause-target c = λ classes heap after. refl

pub returns-clause-other_operands : goal.returns-clause-other_operands
unfolding int_wrap
returns-clause-other_operands c = λ classes heap after. refl

pub returns-clause-float_first : goal.returns-clause-float_first
unfolding int_wrap
returns-clause-float_first c = λ classes heap after answers. refl

pub returns-clause-float_kind : goal.returns-clause-float_kind
unfolding int_wrap
returns-clause-float_kind c = λ classes heap after. refl

pub returns-clause-float_throws_number : goal.returns-clause-float_throws_number
unfolding int_wrap
returns-clause-float_throws_number c = λ classes heap after. refl

pub returns-clause-float_compares : goal.returns-clause-float_compares
unfolding int_wrap
returns-clause-float_compares c = λ classes heap after. refl
