use Rattle.je_world.proofs.LeadsLemmas.{leads_here, leads_on, leads_in, leads_then, leads_look}
use Rattle.je_world.proofs.laws.questions_compose.Goals as goal

pub returns-clause-none : goal.returns-clause-none
returns-clause-none g c = λ old q. leads_here old q

pub returns-clause-on : goal.returns-clause-on
returns-clause-on g c = λ old now new q mid rest h k. leads_on h k

pub returns-clause-inside : goal.returns-clause-inside
returns-clause-inside g c = λ old new q rest k h. leads_in k h

pub returns-clause-behind : goal.returns-clause-behind
returns-clause-behind g c = λ old now new q a k rest h next. leads_then k h next

pub returns-clause-look : goal.returns-clause-look
returns-clause-look g c = λ name old new go known h. leads_look go known h
