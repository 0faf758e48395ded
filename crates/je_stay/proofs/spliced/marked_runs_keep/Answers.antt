use Rattle.je_machine.specs.Operation.{Return}
use Rattle.je_stay.proofs.SplicedLemmas.{index_depth, return_depth, index_known}
use Rattle.je_stay.proofs.spliced.marked_runs_keep.Goals as goal

pub returns-clause-depth : goal.returns-clause-depth
returns-clause-depth c = λ m x marks classes count bound left at s t shape keeps fit visits inside low high e. index_depth m x marks keeps classes count bound left at s t shape fit visits inside low high e

pub returns-clause-known : goal.returns-clause-known
returns-clause-known c = λ m x marks classes count bound left at s t keeps fit visits inside low high e. index_known m x marks keeps classes count bound left at s t fit visits inside low high e

pub returns-clause-returns : goal.returns-clause-returns
returns-clause-returns c = λ m x marks classes count bound left at s t kind shape keeps fit visits stays e known. return_depth m x marks keeps classes count bound left at s t (Return kind) shape fit visits stays.stands e known
