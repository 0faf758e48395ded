use Rattle.je_fit.proofs.RunLemmas.{known_depth}
use Rattle.je_stay.proofs.ProgramLemmas.{chain_keeps, program_inside, program_ends}
use Rattle.je_stay.proofs.inner.programs_keep.Goals as goal

pub returns-clause-reached : goal.returns-clause-reached
returns-clause-reached c = λ kind x q classes count s t keeps fit chain. chain_keeps kind x q keeps classes count s t fit chain

pub returns-clause-inside : goal.returns-clause-inside
returns-clause-inside c = λ kind x q classes count s t keeps fit chain. program_inside kind x q keeps t (chain_keeps kind x q keeps classes count s t fit chain)

pub returns-clause-depth : goal.returns-clause-depth
returns-clause-depth c = λ kind x q classes count s t shape keeps fit chain e. known_depth (x t.place) shape t.frame e (chain_keeps kind x q keeps classes count s t fit chain)

pub returns-clause-ends : goal.returns-clause-ends
returns-clause-ends c = λ kind x q classes bound s keeps fit. program_ends kind x q keeps classes bound bound s fit
