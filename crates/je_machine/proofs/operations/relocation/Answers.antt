use Rattle.je_machine.proofs.MovedLemmas.{perform_retargeted}
use Rattle.je_machine.proofs.operations.relocation.Goals as goal

pub returns : goal.returns
returns c = perform_retargeted
