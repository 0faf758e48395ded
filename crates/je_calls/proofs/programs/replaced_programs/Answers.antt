use Rattle.je_calls.proofs.ProgramLemmas.{some_stands, is_program, is_allowed}
use Rattle.je_calls.proofs.programs.replaced_programs.Goals as goal

pub returns-clause-some : goal.returns-clause-some
returns-clause-some c = λ t program x is faultless plain some. some_stands t program x is faultless plain some

pub returns-clause-program : goal.returns-clause-program
returns-clause-program c = λ t program x is faultless plain old. is_program t program x is faultless plain old

pub returns-clause-allowed : goal.returns-clause-allowed
returns-clause-allowed c = λ t program x is old. is_allowed t program x is old
