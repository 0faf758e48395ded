use Rattle.je_splice.proofs.PieceLemmas.{no_block, one_block, nothing_piece, proceed_piece, call_is}
use Rattle.je_splice.proofs.pieces.pieces_mean.Goals as goal

pub returns-clause-no_block : goal.returns-clause-no_block
returns-clause-no_block c = no_block

pub returns-clause-one_block : goal.returns-clause-one_block
returns-clause-one_block c = one_block

pub returns-clause-nothing : goal.returns-clause-nothing
returns-clause-nothing c = nothing_piece

pub returns-clause-proceeds : goal.returns-clause-proceeds
returns-clause-proceeds c = proceed_piece

pub returns-clause-calls : goal.returns-clause-calls
returns-clause-calls c = call_is
