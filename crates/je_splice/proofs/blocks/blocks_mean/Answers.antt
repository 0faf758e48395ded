use Rattle.je_splice.proofs.BlockLemmas.{nothing_means, proceed_means}
use Rattle.je_splice.proofs.blocks.blocks_mean.Goals as goal

pub returns-clause-nothing : goal.returns-clause-nothing
returns-clause-nothing c = nothing_means

pub returns-clause-proceeds : goal.returns-clause-proceeds
returns-clause-proceeds c = proceed_means
