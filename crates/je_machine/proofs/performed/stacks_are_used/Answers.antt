use Rattle.std.proofs.Common.{refl}
use Rattle.std.specs.Int.{int_wrap}
use Rattle.je_machine.proofs.performed.stacks_are_used.Goals as goal

pub returns-clause-nothing : goal.returns-clause-nothing
unfolding int_wrap
returns-clause-nothing c = λ classes s l o. refl

pub returns-clause-pushed : goal.returns-clause-pushed
unfolding int_wrap
returns-clause-pushed c = λ classes v s l o. refl

pub returns-clause-dropped : goal.returns-clause-dropped
unfolding int_wrap
returns-clause-dropped c = λ classes a s l o. refl

pub returns-clause-copied : goal.returns-clause-copied
unfolding int_wrap
returns-clause-copied c = λ classes a b s l o. refl

pub returns-clause-thrown : goal.returns-clause-thrown
unfolding int_wrap
returns-clause-thrown c = λ classes k s l o. refl

pub returns-clause-null_thrown : goal.returns-clause-null_thrown
unfolding int_wrap
returns-clause-null_thrown c = λ classes fields s l. refl

pub returns-clause-called : goal.returns-clause-called
unfolding int_wrap
returns-clause-called c = λ classes heap after s l. refl

pub returns-clause-no_result : goal.returns-clause-no_result
unfolding int_wrap
returns-clause-no_result c = λ classes heap after s l. refl

pub returns-clause-call_throws : goal.returns-clause-call_throws
unfolding int_wrap
returns-clause-call_throws c = λ classes heap after s l. refl

pub returns-clause-call_waits : goal.returns-clause-call_waits
unfolding int_wrap
returns-clause-call_waits c = λ classes heap s l. refl
