use Rattle.je_instr.proofs.AgainLemmas.{decoded_program, decoded_allows}
use Rattle.je_instr.proofs.again.decoded_again.Goals as goal

pub returns-clause-program : goal.returns-clause-program
returns-clause-program c = decoded_program

pub returns-clause-allows : goal.returns-clause-allows
returns-clause-allows c = decoded_allows
