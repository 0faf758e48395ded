use Rattle.je_splice.proofs.ResolvedLemmas.{marks_meant, fragments_meant}
use Rattle.je_splice.proofs.resolved.marks_are_meant.Goals as goal

pub returns-clause-meant : goal.returns-clause-meant
returns-clause-meant i c = λ consts piece_of fragment_of m n code table p is marks. marks_meant consts piece_of fragment_of m n code table p is marks

pub returns-clause-fragments : goal.returns-clause-fragments
returns-clause-fragments i c = fragments_meant
