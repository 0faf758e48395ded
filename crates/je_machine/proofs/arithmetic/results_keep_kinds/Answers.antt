use Rattle.je_machine.proofs.KindLemmas.{calculate_keeps}
use Rattle.je_machine.proofs.arithmetic.results_keep_kinds.Goals as goal

pub returns : goal.returns
returns c = calculate_keeps
