use Rattle.std.proofs.Common.{refl}
use Rattle.std.specs.Int.{int_wrap}
use Rattle.je_machine.proofs.shown.values_are_copied.Goals as goal

pub returns-clause-dup : goal.returns-clause-dup
unfolding int_wrap
returns-clause-dup c = λ a b c d x y s. refl

pub returns-clause-dup_x1 : goal.returns-clause-dup_x1
unfolding int_wrap
returns-clause-dup_x1 c = λ a b c d x y s. refl

pub returns-clause-dup_x2 : goal.returns-clause-dup_x2
unfolding int_wrap
returns-clause-dup_x2 c = λ a b c d x y s. refl

pub returns-clause-dup_x2_long : goal.returns-clause-dup_x2_long
unfolding int_wrap
returns-clause-dup_x2_long c = λ a b c d x y s. refl

pub returns-clause-dup2 : goal.returns-clause-dup2
unfolding int_wrap
returns-clause-dup2 c = λ a b c d x y s. refl

pub returns-clause-dup2_double : goal.returns-clause-dup2_double
unfolding int_wrap
returns-clause-dup2_double c = λ a b c d x y s. refl

pub returns-clause-dup2_x1 : goal.returns-clause-dup2_x1
unfolding int_wrap
returns-clause-dup2_x1 c = λ a b c d x y s. refl

pub returns-clause-dup2_x1_long : goal.returns-clause-dup2_x1_long
unfolding int_wrap
returns-clause-dup2_x1_long c = λ a b c d x y s. refl

pub returns-clause-dup2_x2 : goal.returns-clause-dup2_x2
unfolding int_wrap
returns-clause-dup2_x2 c = λ a b c d x y s. refl

pub returns-clause-dup2_x2_long : goal.returns-clause-dup2_x2_long
unfolding int_wrap
returns-clause-dup2_x2_long c = λ a b c d x y s. refl

pub returns-clause-dup2_x2_under : goal.returns-clause-dup2_x2_under
unfolding int_wrap
returns-clause-dup2_x2_under c = λ a b c d x y s. refl

pub returns-clause-dup2_x2_both : goal.returns-clause-dup2_x2_both
unfolding int_wrap
returns-clause-dup2_x2_both c = λ a b c d x y s. refl

pub returns-clause-pop2 : goal.returns-clause-pop2
unfolding int_wrap
returns-clause-pop2 c = λ a b c d x y s. refl

pub returns-clause-pop2_long : goal.returns-clause-pop2_long
unfolding int_wrap
returns-clause-pop2_long c = λ a b c d x y s. refl

pub returns-clause-swap : goal.returns-clause-swap
unfolding int_wrap
returns-clause-swap c = λ classes u v s o. refl

pub returns-clause-operands : goal.returns-clause-operands
unfolding int_wrap
returns-clause-operands c = λ classes s o. refl
