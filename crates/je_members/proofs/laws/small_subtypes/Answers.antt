use Rattle.std.proofs.Common.{refl}
use Rattle.je_world.specs.Question.{and_then}
use Rattle.je_world.specs.Walk.{most}
use Rattle.je_world.specs.Search.{walk, chain, sides, above, waiting, went_then, met_then}
use Rattle.je_members.specs.Among.{try_then}
use Rattle.je_members.specs.Subtype.{subtype}
use Rattle.je_members.specs.Common.{superclasses, first_above, common_class}
use Rattle.je_members.proofs.laws.small_subtypes.Goals as goal

pub returns-clause-itself : goal.returns-clause-itself
unfolding subtype try_then superclasses first_above common_class walk chain sides above waiting went_then met_then and_then most
returns-clause-itself c = refl

pub returns-clause-superclass : goal.returns-clause-superclass
unfolding subtype try_then superclasses first_above common_class walk chain sides above waiting went_then met_then and_then most
returns-clause-superclass c = refl

pub returns-clause-interface : goal.returns-clause-interface
unfolding subtype try_then superclasses first_above common_class walk chain sides above waiting went_then met_then and_then most
returns-clause-interface c = refl

pub returns-clause-not_below : goal.returns-clause-not_below
unfolding subtype try_then superclasses first_above common_class walk chain sides above waiting went_then met_then and_then most
returns-clause-not_below c = refl

pub returns-clause-before_what_is_bad : goal.returns-clause-before_what_is_bad
unfolding subtype try_then superclasses first_above common_class walk chain sides above waiting went_then met_then and_then most
returns-clause-before_what_is_bad c = refl

pub returns-clause-missing_above : goal.returns-clause-missing_above
unfolding subtype try_then superclasses first_above common_class walk chain sides above waiting went_then met_then and_then most
returns-clause-missing_above c = refl

pub returns-clause-broken_above : goal.returns-clause-broken_above
unfolding subtype try_then superclasses first_above common_class walk chain sides above waiting went_then met_then and_then most
returns-clause-broken_above c = refl

pub returns-clause-ring : goal.returns-clause-ring
unfolding subtype try_then superclasses first_above common_class walk chain sides above waiting went_then met_then and_then most
returns-clause-ring c = refl
