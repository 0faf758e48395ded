use Rattle.std.proofs.Common.{refl}
use Rattle.je_world.specs.Question.{and_then}
use Rattle.je_world.specs.Walk.{most}
use Rattle.je_world.specs.Search.{walk, chain, sides, above, waiting, went_then, met_then}
use Rattle.je_members.specs.Among.{try_then}
use Rattle.je_members.specs.Subtype.{subtype}
use Rattle.je_members.specs.Common.{superclasses, first_above, common_class}
use Rattle.je_members.proofs.laws.small_common_supers.Goals as goal

pub returns-clause-itself : goal.returns-clause-itself
unfolding subtype try_then superclasses first_above common_class walk chain sides above waiting went_then met_then and_then most
returns-clause-itself c = refl

pub returns-clause-superclass : goal.returns-clause-superclass
unfolding subtype try_then superclasses first_above common_class walk chain sides above waiting went_then met_then and_then most
returns-clause-superclass c = refl

pub returns-clause-from_below : goal.returns-clause-from_below
unfolding subtype try_then superclasses first_above common_class walk chain sides above waiting went_then met_then and_then most
returns-clause-from_below c = refl

pub returns-clause-arrays : goal.returns-clause-arrays
unfolding subtype try_then superclasses first_above common_class walk chain sides above waiting went_then met_then and_then most
returns-clause-arrays c = refl

pub returns-clause-arrays_of_base : goal.returns-clause-arrays_of_base
unfolding subtype try_then superclasses first_above common_class walk chain sides above waiting went_then met_then and_then most
returns-clause-arrays_of_base c = refl

pub returns-clause-arrays_of_arrays : goal.returns-clause-arrays_of_arrays
unfolding subtype try_then superclasses first_above common_class walk chain sides above waiting went_then met_then and_then most
returns-clause-arrays_of_arrays c = refl

pub returns-clause-interface : goal.returns-clause-interface
unfolding subtype try_then superclasses first_above common_class walk chain sides above waiting went_then met_then and_then most
returns-clause-interface c = refl

pub returns-clause-second_interface : goal.returns-clause-second_interface
unfolding subtype try_then superclasses first_above common_class walk chain sides above waiting went_then met_then and_then most
returns-clause-second_interface c = refl

pub returns-clause-array_and_class : goal.returns-clause-array_and_class
unfolding subtype try_then superclasses first_above common_class walk chain sides above waiting went_then met_then and_then most
returns-clause-array_and_class c = refl

pub returns-clause-missing_above : goal.returns-clause-missing_above
unfolding subtype try_then superclasses first_above common_class walk chain sides above waiting went_then met_then and_then most
returns-clause-missing_above c = refl
