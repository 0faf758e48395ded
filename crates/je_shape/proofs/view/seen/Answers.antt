use Rattle.je_shape.proofs.NameLemmas.{none_sorted}
use Rattle.je_shape.proofs.view.seen.Goals as goal

pub returns-in-Null-clause-canonical : goal.returns-in-Null-clause-canonical
returns-in-Null-clause-canonical c = none_sorted
