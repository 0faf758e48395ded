use Rattle.std.proofs.Common.{refl}
use Rattle.je_world.specs.Question.{and_then}
use Rattle.je_world.specs.Walk.{most}
use Rattle.je_world.specs.Search.{walk, field_walk, fields, chain, sides, above, waiting, went_then, met_then}
use Rattle.je_world.proofs.walks.small_searches.Goals as goal

pub returns-clause-met : goal.returns-clause-met
unfolding walk field_walk fields chain sides above waiting went_then met_then and_then most
returns-clause-met c = refl

pub returns-clause-seen : goal.returns-clause-seen
unfolding walk field_walk fields chain sides above waiting went_then met_then and_then most
returns-clause-seen c = refl

pub returns-clause-at_once : goal.returns-clause-at_once
unfolding walk field_walk fields chain sides above waiting went_then met_then and_then most
returns-clause-at_once c = refl

pub returns-clause-ring : goal.returns-clause-ring
unfolding walk field_walk fields chain sides above waiting went_then met_then and_then most
returns-clause-ring c = refl

pub returns-clause-in_order : goal.returns-clause-in_order
unfolding walk field_walk fields chain sides above waiting went_then met_then and_then most
returns-clause-in_order c = refl
