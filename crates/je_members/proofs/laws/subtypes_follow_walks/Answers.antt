use Rattle.je_members.proofs.DecisionLemmas.{subtype_answer}
use Rattle.je_members.proofs.laws.subtypes_follow_walks.Goals as goal

pub returns : goal.returns
returns c = λ map sub sup names end walk. subtype_answer map sub sup walk
