use Rattle.std.proofs.Common.{refl}
use Rattle.je_world.specs.Question.{and_then}
use Rattle.je_world.specs.Walk.{most}
use Rattle.je_world.specs.Search.{walk, field_walk, fields, chain, sides, above, waiting, went_then, met_then}
use Rattle.je_world.proofs.walks.small_walks.Goals as goal

pub returns-clause-top : goal.returns-clause-top
unfolding walk field_walk fields chain sides above waiting went_then met_then and_then most
returns-clause-top c = refl

pub returns-clause-diamond : goal.returns-clause-diamond
unfolding walk field_walk fields chain sides above waiting went_then met_then and_then most
returns-clause-diamond c = refl

pub returns-clause-repeats : goal.returns-clause-repeats
unfolding walk field_walk fields chain sides above waiting went_then met_then and_then most
returns-clause-repeats c = refl

pub returns-clause-interface : goal.returns-clause-interface
unfolding walk field_walk fields chain sides above waiting went_then met_then and_then most
returns-clause-interface c = refl

pub returns-clause-classes_in_a_ring : goal.returns-clause-classes_in_a_ring
unfolding walk field_walk fields chain sides above waiting went_then met_then and_then most
returns-clause-classes_in_a_ring c = refl

pub returns-clause-interfaces_in_a_ring : goal.returns-clause-interfaces_in_a_ring
unfolding walk field_walk fields chain sides above waiting went_then met_then and_then most
returns-clause-interfaces_in_a_ring c = refl

pub returns-clause-broken_above : goal.returns-clause-broken_above
unfolding walk field_walk fields chain sides above waiting went_then met_then and_then most
returns-clause-broken_above c = refl

pub returns-clause-missing_above : goal.returns-clause-missing_above
unfolding walk field_walk fields chain sides above waiting went_then met_then and_then most
returns-clause-missing_above c = refl

pub returns-clause-missing : goal.returns-clause-missing
unfolding walk field_walk fields chain sides above waiting went_then met_then and_then most
returns-clause-missing c = refl
