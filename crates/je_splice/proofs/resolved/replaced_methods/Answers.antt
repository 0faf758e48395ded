use Rattle.je_splice.proofs.GiveWayLemmas.{replaced_does, replaced_agrees}
use Rattle.je_splice.proofs.resolved.replaced_methods.Goals as goal

pub returns-clause-does : goal.returns-clause-does
returns-clause-does i c = λ consts piece_of fragment_of m code table n p q limit ok gives fits parameters is classes.
    replaced_does consts piece_of fragment_of m code table n p q limit ok gives fits parameters is classes

pub returns-clause-agrees : goal.returns-clause-agrees
returns-clause-agrees i c = λ consts piece_of fragment_of m code table n p q limit ok gives fits parameters is classes arguments heap answers fine.
    replaced_agrees consts piece_of fragment_of m code table n p q limit ok gives fits parameters is classes arguments heap answers fine
