use Rattle.je_instr.proofs.TakeLemmas.{simple_takes, invoke_takes}
use Rattle.je_instr.proofs.decoder.forms_take.Goals as goal

pub returns-clause-simple : goal.returns-clause-simple
returns-clause-simple c = simple_takes

pub returns-clause-invoke : goal.returns-clause-invoke
returns-clause-invoke c = invoke_takes
