use Rattle.std.proofs.Common.{refl}
use Rattle.std.specs.Int.{int_wrap}
use Rattle.je_machine.proofs.performed.locals_are_used.Goals as goal

pub returns-clause-loaded : goal.returns-clause-loaded
unfolding int_wrap
returns-clause-loaded c = λ classes u v s o. refl

pub returns-clause-never_written : goal.returns-clause-never_written
unfolding int_wrap
returns-clause-never_written c = λ classes u s o. refl

pub returns-clause-stored : goal.returns-clause-stored
unfolding int_wrap
returns-clause-stored c = λ classes u v w x s o. refl

pub returns-clause-stored_behind : goal.returns-clause-stored_behind
unfolding int_wrap
returns-clause-stored_behind c = λ classes u v s o. refl

pub returns-clause-incremented : goal.returns-clause-incremented
unfolding int_wrap
returns-clause-incremented c = λ classes u s o. refl

pub returns-clause-increment_wraps : goal.returns-clause-increment_wraps
unfolding int_wrap
returns-clause-increment_wraps c = λ classes s o. refl

pub returns-clause-no_int_incremented : goal.returns-clause-no_int_incremented
unfolding int_wrap
returns-clause-no_int_incremented c = λ classes s o. refl
