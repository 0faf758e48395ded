use Rattle.je_machine.proofs.OutsideLemmas.{call_given, call_gives_nothing, call_thrown}
use Rattle.je_machine.proofs.actions.calls_do.Goals as goal

pub returns-clause-given : goal.returns-clause-given
returns-clause-given c = call_given

pub returns-clause-nothing : goal.returns-clause-nothing
returns-clause-nothing c = call_gives_nothing

pub returns-clause-thrown : goal.returns-clause-thrown
returns-clause-thrown c = call_thrown
