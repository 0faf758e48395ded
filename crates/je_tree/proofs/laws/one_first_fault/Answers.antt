use Rattle.je_tree.proofs.FaultLemmas.{one_fault}
use Rattle.je_tree.proofs.laws.one_first_fault.Goals as goal

pub returns : goal.returns
returns c = record { one = one_fault }
