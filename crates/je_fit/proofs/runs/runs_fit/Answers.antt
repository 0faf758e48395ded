use Rattle.je_machine.specs.Machine.{start_of}
use Rattle.je_fit.proofs.StepLemmas.{inside_code, never_nothing}
use Rattle.je_fit.proofs.RunLemmas.{begun_fits, chain_fits, known_depth, run_fits, whole_run}
use Rattle.je_fit.proofs.runs.runs_fit.Goals as goal

pub returns-clause-begins : goal.returns-clause-begins
returns-clause-begins c = λ m x frame sound inside fit. begun_fits m x sound inside frame fit

pub returns-clause-reached : goal.returns-clause-reached
returns-clause-reached c = λ m x classes count s t sound formed fit chain. chain_fits m x sound formed classes count s t fit chain

pub returns-clause-inside : goal.returns-clause-inside
returns-clause-inside c = λ m x classes count s t sound formed fit chain. inside_code m x sound t (chain_fits m x sound formed classes count s t fit chain)

pub returns-clause-known : goal.returns-clause-known
returns-clause-known c = λ m x classes count s t sound formed fit chain. never_nothing x t (chain_fits m x sound formed classes count s t fit chain)

pub returns-clause-depth : goal.returns-clause-depth
returns-clause-depth c = λ m x classes count s t shape sound formed fit chain e. known_depth (x t.place) shape t.frame e (chain_fits m x sound formed classes count s t fit chain)

pub returns-clause-ends : goal.returns-clause-ends
returns-clause-ends c = λ m x classes bound s sound formed fit. run_fits m x sound formed classes bound bound s fit

pub returns-clause-whole : goal.returns-clause-whole
returns-clause-whole c = λ m x classes arguments heap answers bound sound formed fit. let s = start_of m.program arguments heap answers in whole_run m x sound formed classes bound s.frame s.outside fit
