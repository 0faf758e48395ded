use Rattle.je_fit.proofs.EntryLemmas.{static_entered, instance_entered}
use Rattle.je_fit.proofs.runs.parameters_fit.Goals as goal

pub returns-clause-of_static : goal.returns-clause-of_static
returns-clause-of_static c = static_entered

pub returns-clause-of_instance : goal.returns-clause-of_instance
returns-clause-of_instance c = instance_entered
