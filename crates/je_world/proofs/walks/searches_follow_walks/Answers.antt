use Rattle.je_world.proofs.WalkLemmas.{along_walk, along_field_walk}
use Rattle.je_world.proofs.walks.searches_follow_walks.Goals as goal

pub returns-clause-walk : goal.returns-clause-walk
returns-clause-walk g c = λ s map name names end walk. along_walk s map walk

pub returns-clause-field_walk : goal.returns-clause-field_walk
returns-clause-field_walk g c = λ s map name names end walk. along_field_walk s map walk.fields
