use Rattle.je_machine.proofs.IndexMapLemmas.{run_moved}
use Rattle.je_machine.proofs.machine.moved_programs.Goals as goal

pub returns : goal.returns
returns c = run_moved
