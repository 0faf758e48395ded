use Rattle.std.proofs.Common.{refl}
use Rattle.std.specs.Int.{int_wrap}
use Rattle.je_machine.proofs.performed.jumps_are_taken.Goals as goal

pub returns-clause-met : goal.returns-clause-met
unfolding int_wrap
returns-clause-met c = λ classes s l o. refl

pub returns-clause-not_met : goal.returns-clause-not_met
unfolding int_wrap
returns-clause-not_met c = λ classes s l o. refl

pub returns-clause-of_two : goal.returns-clause-of_two
unfolding int_wrap
returns-clause-of_two c = λ classes s l o. refl

pub returns-clause-of_reference : goal.returns-clause-of_reference
unfolding int_wrap
returns-clause-of_reference c = λ classes s l o. refl

pub returns-clause-goes : goal.returns-clause-goes
unfolding int_wrap
returns-clause-goes c = λ classes s l o. refl

pub returns-clause-switched : goal.returns-clause-switched
unfolding int_wrap
returns-clause-switched c = λ classes s l o. refl

pub returns-clause-defaulted : goal.returns-clause-defaulted
unfolding int_wrap
returns-clause-defaulted c = λ classes s l o. refl

pub returns-clause-leaves : goal.returns-clause-leaves
unfolding int_wrap
returns-clause-leaves c = λ classes s l o. refl

pub returns-clause-leaves_with : goal.returns-clause-leaves_with
unfolding int_wrap
returns-clause-leaves_with c = λ classes v s l o. refl

pub returns-clause-leaves_with_null : goal.returns-clause-leaves_with_null
unfolding int_wrap
returns-clause-leaves_with_null c = λ classes l o. refl
