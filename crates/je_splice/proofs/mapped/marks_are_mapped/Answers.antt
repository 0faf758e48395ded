use Rattle.je_splice.proofs.MappedLemmas.{items_mapped, marked_mapped}
use Rattle.je_splice.proofs.mapped.marks_are_mapped.Goals as goal

pub returns-clause-items : goal.returns-clause-items
returns-clause-items i c = λ f x_map g codes others m n maps marks code. items_mapped f g codes others maps x_map m n marks code

pub returns-clause-handlers : goal.returns-clause-handlers
returns-clause-handlers i c = λ f x_map g codes others m n maps marks handlers. marked_mapped f g codes others maps x_map m n marks handlers
