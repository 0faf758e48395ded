use Rattle.je_stay.proofs.PieceLemmas.{proceeding_keeps, nothing_keeps_all, alone_keeps, empty_keeps}
use Rattle.je_stay.proofs.pieces.small_pieces_keep.Goals as goal

pub returns-clause-nothing : goal.returns-clause-nothing
returns-clause-nothing c = nothing_keeps_all

pub returns-clause-proceeds : goal.returns-clause-proceeds
returns-clause-proceeds c = proceeding_keeps

pub returns-clause-empty : goal.returns-clause-empty
returns-clause-empty c = empty_keeps

pub returns-clause-alone : goal.returns-clause-alone
returns-clause-alone c = alone_keeps
