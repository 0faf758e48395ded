use Rattle.je_world.proofs.OneWalkLemmas.{some_walk, one_walk, some_field_walk, one_field_walk}
use Rattle.je_world.proofs.walks.each_name_has_one_walk.Goals as goal

pub returns-clause-walk : goal.returns-clause-walk
returns-clause-walk c = λ map name. some_walk map name

pub returns-clause-one : goal.returns-clause-one
returns-clause-one c = λ map name a b x y h k. one_walk map name a b x y h k

pub returns-clause-field_walk : goal.returns-clause-field_walk
returns-clause-field_walk c = λ map name. some_field_walk map name

pub returns-clause-one_field_walk : goal.returns-clause-one_field_walk
returns-clause-one_field_walk c = λ map name a b x y h k. one_field_walk map name a b x y h k
