use Rattle.std.proofs.Common.{refl}
use Rattle.std.specs.Int.{int_wrap}
use Rattle.je_splice.proofs.LoopLemmas.{loop_fits, loop_agrees}
use Rattle.je_splice.proofs.shown.loop_is_spliced.Goals as goal

pub returns-clause-laid : goal.returns-clause-laid
returns-clause-laid c = refl

pub returns-clause-fits : goal.returns-clause-fits
returns-clause-fits c = loop_fits

pub returns-clause-agrees : goal.returns-clause-agrees
returns-clause-agrees c = loop_agrees

pub returns-clause-turned : goal.returns-clause-turned
unfolding int_wrap
returns-clause-turned c = λ heap after. refl

pub returns-clause-turn_is_meant : goal.returns-clause-turn_is_meant
unfolding int_wrap
returns-clause-turn_is_meant c = λ heap after. refl

pub returns-clause-thrown : goal.returns-clause-thrown
unfolding int_wrap
returns-clause-thrown c = λ heap after. refl

pub returns-clause-throw_is_meant : goal.returns-clause-throw_is_meant
unfolding int_wrap
returns-clause-throw_is_meant c = λ heap after. refl
