use Rattle.je_splice.proofs.MarksLemmas.{first_rises, stand_before, marked_length}
use Rattle.je_splice.proofs.marks.places_are_counted.Goals as goal

pub returns-clause-rises : goal.returns-clause-rises
returns-clause-rises g c = λ m i j h. first_rises m i j h

pub returns-clause-last : goal.returns-clause-last
returns-clause-last g c = λ m i. stand_before m i

pub returns-clause-length : goal.returns-clause-length
returns-clause-length g c = λ codes m code. marked_length codes m code
