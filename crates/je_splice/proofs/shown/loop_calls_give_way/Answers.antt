use Rattle.std.proofs.Common.{refl}
use Rattle.je_splice.proofs.LoopCallLemmas.{gives_way, calls_fit, replaced_is, calls_agree}
use Rattle.je_splice.proofs.shown.loop_calls_give_way.Goals as goal

pub returns-clause-gives_way : goal.returns-clause-gives_way
returns-clause-gives_way c = gives_way

pub returns-clause-fits : goal.returns-clause-fits
returns-clause-fits c = calls_fit

pub returns-clause-code : goal.returns-clause-code
returns-clause-code c = refl

pub returns-clause-table : goal.returns-clause-table
returns-clause-table c = refl

pub returns-clause-program : goal.returns-clause-program
returns-clause-program c = replaced_is

pub returns-clause-agrees : goal.returns-clause-agrees
returns-clause-agrees c = calls_agree
