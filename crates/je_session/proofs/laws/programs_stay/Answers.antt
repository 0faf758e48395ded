use Rattle.je_session.proofs.GrownLemmas.{program_stays}
use Rattle.je_session.proofs.laws.programs_stay.Goals as goal

pub returns : goal.returns
returns c old new at m program sound keeps here of =
    program_stays c.contents_stay.ensures.program old new at m program (c.names_stay.ensures old new.consts sound keeps) keeps here of
