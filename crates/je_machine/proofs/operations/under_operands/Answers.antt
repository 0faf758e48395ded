use Rattle.je_machine.proofs.UnderLemmas.{perform_over}
use Rattle.je_machine.proofs.operations.under_operands.Goals as goal

pub returns : goal.returns
returns c = perform_over
