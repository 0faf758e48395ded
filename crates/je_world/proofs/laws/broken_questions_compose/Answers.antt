use Rattle.je_world.proofs.LeadsLemmas.{breaks_on, breaks_in, breaks_then, no_memory, breaks_look}
use Rattle.je_world.proofs.laws.broken_questions_compose.Goals as goal

pub returns-clause-on : goal.returns-clause-on
returns-clause-on g c = λ old now new q mid why h k. breaks_on why h k

pub returns-clause-inside : goal.returns-clause-inside
returns-clause-inside g c = λ old new q k why h. breaks_in k why h

pub returns-clause-behind : goal.returns-clause-behind
returns-clause-behind g c = λ old now new q a k why h next. breaks_then k why h next

pub returns-clause-memory : goal.returns-clause-memory
returns-clause-memory g c = λ old new q rest h. no_memory h

pub returns-clause-look : goal.returns-clause-look
returns-clause-look g c = λ name old new go why h. breaks_look go why h
