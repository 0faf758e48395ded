use Rattle.je_splice.proofs.PieceLemmas.{emptied_fits, proceeded_fits}
use Rattle.je_splice.proofs.pieces.actions_give_way.Goals as goal

pub returns-clause-empty : goal.returns-clause-empty
returns-clause-empty c = emptied_fits

pub returns-clause-proceeds : goal.returns-clause-proceeds
returns-clause-proceeds c = proceeded_fits
