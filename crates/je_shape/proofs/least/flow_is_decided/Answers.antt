use Rattle.je_shape.proofs.DecidedLemmas.{served, unserved}
use Rattle.je_shape.proofs.least.flow_is_decided.Goals as goal

pub returns-clause-served : goal.returns-clause-served
returns-clause-served c = served

pub returns-clause-unserved : goal.returns-clause-unserved
returns-clause-unserved c = unserved
