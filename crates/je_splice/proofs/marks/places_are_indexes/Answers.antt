use Rattle.je_splice.proofs.MarksLemmas.{arrive_alone, stand_alone}
use Rattle.je_splice.proofs.marks.places_are_indexes.Goals as goal

pub returns-clause-arrive : goal.returns-clause-arrive
returns-clause-arrive g c = λ m only i. arrive_alone m only i

pub returns-clause-stand : goal.returns-clause-stand
returns-clause-stand g c = λ m only i. stand_alone m only i
