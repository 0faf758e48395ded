use Rattle.std.proofs.Common.{refl}
use Rattle.std.specs.Int.{int_wrap}
use Rattle.je_machine.proofs.shown.runs_are_shown.Goals as goal

pub returns-clause-two_places : goal.returns-clause-two_places
unfolding int_wrap
returns-clause-two_places c = refl

pub returns-clause-no_argument : goal.returns-clause-no_argument
unfolding int_wrap
returns-clause-no_argument c = refl

pub returns-clause-at_handler : goal.returns-clause-at_handler
unfolding int_wrap
returns-clause-at_handler c = λ left v locals o. refl

pub returns-clause-at_start : goal.returns-clause-at_start
unfolding int_wrap
returns-clause-at_start c = refl

pub returns-clause-before_start : goal.returns-clause-before_start
unfolding int_wrap
returns-clause-before_start c = refl

pub returns-clause-last_place : goal.returns-clause-last_place
unfolding int_wrap
returns-clause-last_place c = refl

pub returns-clause-at_end : goal.returns-clause-at_end
unfolding int_wrap
returns-clause-at_end c = refl

pub returns-clause-first_fits : goal.returns-clause-first_fits
unfolding int_wrap
returns-clause-first_fits c = λ heap. refl

pub returns-clause-class_fits : goal.returns-clause-class_fits
unfolding int_wrap
returns-clause-class_fits c = λ fields. refl

pub returns-clause-handled : goal.returns-clause-handled
unfolding int_wrap
returns-clause-handled c = λ heap. refl

pub returns-clause-uncaught : goal.returns-clause-uncaught
unfolding int_wrap
returns-clause-uncaught c = λ heap. refl

pub returns-clause-counted : goal.returns-clause-counted
unfolding int_wrap
returns-clause-counted c = λ heap. refl

pub returns-clause-none_fits : goal.returns-clause-none_fits
unfolding int_wrap
returns-clause-none_fits c = λ heap. refl

pub returns-clause-waiting : goal.returns-clause-waiting
unfolding int_wrap
returns-clause-waiting c = λ heap. refl

pub returns-clause-past_the_code : goal.returns-clause-past_the_code
unfolding int_wrap
returns-clause-past_the_code c = λ heap. refl
