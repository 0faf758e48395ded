use Rattle.je_session.proofs.ProgramLemmas.{one_program}
use Rattle.je_session.proofs.laws.one_program.Goals as goal

pub returns : goal.returns
returns c = one_program (record { code = c.one_code.ensures.layout; program = c.one_program.ensures.program })
