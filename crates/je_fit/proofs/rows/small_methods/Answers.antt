use Rattle.std.proofs.Common.{refl, arith}
use Rattle.std.specs.Int.{int_wrap}
use Rattle.je_fit.proofs.SampleLemmas.{two_sound, behind_unsound, fault_unsound}
use Rattle.je_fit.proofs.rows.small_methods.Goals as goal

pub returns-clause-sound : goal.returns-clause-sound
unfolding int_wrap
returns-clause-sound c = two_sound

pub returns-clause-formed : goal.returns-clause-formed
unfolding int_wrap
returns-clause-formed c = record { operands = (refl, (refl, tt)); handlers = tt }

pub returns-clause-behind : goal.returns-clause-behind
unfolding int_wrap
returns-clause-behind c = behind_unsound

pub returns-clause-at_fault : goal.returns-clause-at_fault
unfolding int_wrap
returns-clause-at_fault c = fault_unsound

pub returns-clause-wide : goal.returns-clause-wide
unfolding int_wrap
returns-clause-wide c = λ h. absurd (let e = h.operands.0 in cc)

pub returns-clause-handler_behind : goal.returns-clause-handler_behind
unfolding int_wrap
returns-clause-handler_behind c = λ operations h le w. let less = w.handlers.0 in omega (arith, le, less)

pub returns-clause-no_array : goal.returns-clause-no_array
unfolding int_wrap
returns-clause-no_array c = λ h. absurd (let e = h.operands.0 in cc)
