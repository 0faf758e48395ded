use Rattle.std.proofs.Common.{refl}
use Rattle.std.specs.Int.{int_wrap}
use Rattle.je_machine.proofs.performed.kinds_are_known.Goals as goal

pub returns-clause-types : goal.returns-clause-types
unfolding int_wrap
returns-clause-types c = refl

pub returns-clause-calculated : goal.returns-clause-calculated
unfolding int_wrap
returns-clause-calculated c = refl

pub returns-clause-calculated_results : goal.returns-clause-calculated_results
unfolding int_wrap
returns-clause-calculated_results c = refl

pub returns-clause-loaded : goal.returns-clause-loaded
unfolding int_wrap
returns-clause-loaded c = refl

pub returns-clause-operands : goal.returns-clause-operands
unfolding int_wrap
returns-clause-operands c = refl

pub returns-clause-sizes : goal.returns-clause-sizes
unfolding int_wrap
returns-clause-sizes c = refl

pub returns-clause-called : goal.returns-clause-called
unfolding int_wrap
returns-clause-called c = refl

pub returns-clause-results : goal.returns-clause-results
unfolding int_wrap
returns-clause-results c = refl

pub returns-clause-targets : goal.returns-clause-targets
unfolding int_wrap
returns-clause-targets c = refl

pub returns-clause-no_targets : goal.returns-clause-no_targets
unfolding int_wrap
returns-clause-no_targets c = refl
