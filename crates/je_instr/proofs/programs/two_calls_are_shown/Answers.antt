use Rattle.je_instr.proofs.SampleLemmas.{returned, thrown, waits}
use Rattle.je_instr.proofs.programs.two_calls_are_shown.Goals as goal

pub returns-clause-returned : goal.returns-clause-returned
returns-clause-returned c = λ consts i j class name text other_class other_name other_text p heap middle last u v one two is. returned consts i j class name text other_class other_name other_text p one two is heap middle last u v

pub returns-clause-thrown : goal.returns-clause-thrown
returns-clause-thrown c = λ consts i j class name text other_class other_name other_text p heap middle last u number one two is. thrown consts i j class name text other_class other_name other_text p one two is heap middle last u number

pub returns-clause-waits : goal.returns-clause-waits
returns-clause-waits c = λ consts i j class name text other_class other_name other_text p heap middle u one two is. waits consts i j class name text other_class other_name other_text p one two is heap middle u
