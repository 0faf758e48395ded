use Rattle.je_splice.proofs.MappedLemmas.{code_mapped, handlers_mapped}
use Rattle.je_splice.proofs.mapped.layouts_are_mapped.Goals as goal

pub returns-clause-code : goal.returns-clause-code
returns-clause-code i c = λ f g codes others maps items. code_mapped f g codes others maps items

pub returns-clause-handlers : goal.returns-clause-handlers
returns-clause-handlers i c = λ f g codes others maps items handlers. handlers_mapped f g codes others maps items handlers
