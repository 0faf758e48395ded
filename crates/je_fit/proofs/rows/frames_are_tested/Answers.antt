use Rattle.std.proofs.Common.{refl}
use Rattle.std.specs.Int.{int_wrap}
use Rattle.je_fit.proofs.rows.frames_are_tested.Goals as goal

pub returns-clause-stack : goal.returns-clause-stack
unfolding int_wrap
returns-clause-stack c = refl

pub returns-clause-other_order : goal.returns-clause-other_order
unfolding int_wrap
returns-clause-other_order c = refl

pub returns-clause-too_deep : goal.returns-clause-too_deep
unfolding int_wrap
returns-clause-too_deep c = λ v. refl

pub returns-clause-too_flat : goal.returns-clause-too_flat
unfolding int_wrap
returns-clause-too_flat c = λ s. refl

pub returns-clause-range : goal.returns-clause-range
unfolding int_wrap
returns-clause-range c = refl

pub returns-clause-top_item : goal.returns-clause-top_item
unfolding int_wrap
returns-clause-top_item c = λ v. refl

pub returns-clause-top_local : goal.returns-clause-top_local
unfolding int_wrap
returns-clause-top_local c = λ v. refl

pub returns-clause-locals : goal.returns-clause-locals
unfolding int_wrap
returns-clause-locals c = λ v w. refl

pub returns-clause-other_local : goal.returns-clause-other_local
unfolding int_wrap
returns-clause-other_local c = λ v. refl

pub returns-clause-unwritten : goal.returns-clause-unwritten
unfolding int_wrap
returns-clause-unwritten c = refl

pub returns-clause-unwritten_reference : goal.returns-clause-unwritten_reference
unfolding int_wrap
returns-clause-unwritten_reference c = λ name. refl

pub returns-clause-references : goal.returns-clause-references
unfolding int_wrap
returns-clause-references c = λ names n. refl

pub returns-clause-null : goal.returns-clause-null
unfolding int_wrap
returns-clause-null c = λ names. refl

pub returns-clause-waiting : goal.returns-clause-waiting
unfolding int_wrap
returns-clause-waiting c = λ new n. refl

pub returns-clause-this : goal.returns-clause-this
unfolding int_wrap
returns-clause-this c = λ n. refl

pub returns-clause-text : goal.returns-clause-text
unfolding int_wrap
returns-clause-text c = λ names text. refl

pub returns-clause-no_reference : goal.returns-clause-no_reference
unfolding int_wrap
returns-clause-no_reference c = λ names n. refl
