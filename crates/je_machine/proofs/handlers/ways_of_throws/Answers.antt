use Rattle.je_machine.proofs.HandlerLemmas.{catcher_covers, catcher_same, catcher_joined}
use Rattle.je_machine.proofs.handlers.ways_of_throws.Goals as goal

pub returns-clause-first : goal.returns-clause-first
returns-clause-first c = catcher_covers

pub returns-clause-alike : goal.returns-clause-alike
returns-clause-alike c = catcher_same

pub returns-clause-joined : goal.returns-clause-joined
returns-clause-joined c = catcher_joined
