use Rattle.je_instr.proofs.ProgramLemmas.{some_program}
use Rattle.je_instr.proofs.laws.programs_exist.Goals as goal

pub returns : goal.returns
returns c = record { some = some_program }
