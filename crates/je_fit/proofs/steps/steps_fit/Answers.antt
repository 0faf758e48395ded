use Rattle.je_fit.proofs.StepLemmas.{step_fits, inside_code, never_nothing}
use Rattle.je_fit.proofs.RunLemmas.{known_depth}
use Rattle.je_fit.proofs.steps.steps_fit.Goals as goal

pub returns-clause-step : goal.returns-clause-step
returns-clause-step c = λ m x classes left s sound formed fit. step_fits m x sound formed classes left s fit

pub returns-clause-inside : goal.returns-clause-inside
returns-clause-inside c = λ m x s sound fit. inside_code m x sound s fit

pub returns-clause-known : goal.returns-clause-known
returns-clause-known c = never_nothing

pub returns-clause-depth : goal.returns-clause-depth
returns-clause-depth c = λ x s shape fit e. known_depth (x s.place) shape s.frame e fit
