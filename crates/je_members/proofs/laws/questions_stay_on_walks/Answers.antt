use Rattle.je_members.proofs.SubtypeLemmas.{subtype_names, superclass_names, first_names}
use Rattle.je_members.proofs.laws.questions_stay_on_walks.Goals as goal

pub returns-clause-subtype : goal.returns-clause-subtype
returns-clause-subtype c = λ map sub sup names end walk x h. subtype_names map sub sup walk x h

pub returns-clause-assignable : goal.returns-clause-assignable
returns-clause-assignable c = λ map sub sup names end walk x h. subtype_names map sub sup walk x h

pub returns-clause-superclasses : goal.returns-clause-superclasses
returns-clause-superclasses c = λ map name names end walk x h. superclass_names map name walk x h

pub returns-clause-first_above : goal.returns-clause-first_above
returns-clause-first_above c = λ map sought name names end walk x h. first_names map sought name walk x h
