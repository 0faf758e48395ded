use Rattle.je_stay.proofs.StayLemmas.{instruction_stays, throw_stays}
use Rattle.je_stay.proofs.marks.instructions_stay.Goals as goal

pub returns-clause-stays : goal.returns-clause-stays
returns-clause-stays c = λ m x at op sound formed there. instruction_stays m x sound formed at op there

pub returns-clause-throws : goal.returns-clause-throws
returns-clause-throws c = λ m x classes at op frame v outside sound formed there r fit. throw_stays m x sound formed classes at op frame v outside there r fit

pub returns-clause-marked : goal.returns-clause-marked
returns-clause-marked c = λ m x marks sound formed pieces. record {
  pieces = pieces;
  stays = λ at op stays. instruction_stays m x sound formed at op stays.stands;
  behind = sound.behind;
}
