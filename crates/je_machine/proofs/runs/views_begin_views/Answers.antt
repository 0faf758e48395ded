use Rattle.je_machine.proofs.ViewLemmas.{antisymmetric}
use Rattle.je_machine.proofs.runs.views_begin_views.Goals as goal

pub returns-clause-antisymmetric : goal.returns-clause-antisymmetric
returns-clause-antisymmetric c = antisymmetric
