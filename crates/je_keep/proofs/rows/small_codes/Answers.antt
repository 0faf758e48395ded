use Rattle.je_keep.proofs.SampleLemmas.{method_is}
use Rattle.je_keep.proofs.rows.small_codes.Goals as goal

pub returns-clause-method : goal.returns-clause-method
returns-clause-method c = method_is

pub returns-clause-faultless : goal.returns-clause-faultless
returns-clause-faultless c = record { least = c.small_methods-2.ensures.reached; whole = c.small_methods.ensures.sound.whole }

pub returns-clause-no_end : goal.returns-clause-no_end
returns-clause-no_end c = λ consts p is. c.one_decoding.ensures.no_fault consts _ _ is.decoded _ is.decodes (c.programs_mean.ensures.no_target consts)
