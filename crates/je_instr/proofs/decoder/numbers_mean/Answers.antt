use Rattle.je_instr.proofs.NumberLemmas.{two_is, four_is}
use Rattle.je_instr.proofs.decoder.numbers_mean.Goals as goal

pub returns-clause-two : goal.returns-clause-two
returns-clause-two c = two_is

pub returns-clause-four : goal.returns-clause-four
returns-clause-four c = four_is
