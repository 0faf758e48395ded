use Rattle.std.proofs.Common.{refl}
use Rattle.je_world.specs.Question.{and_then}
use Rattle.je_world.specs.Walk.{most}
use Rattle.je_world.specs.Search.{walk, chain, sides, above, waiting, went_then, met_then}
use Rattle.je_members.specs.Among.{try_then}
use Rattle.je_members.specs.Subtype.{subtype}
use Rattle.je_members.specs.Common.{superclasses, first_above, common_class}
use Rattle.je_members.proofs.laws.small_assignments.Goals as goal

pub returns-clause-same_base : goal.returns-clause-same_base
unfolding subtype try_then superclasses first_above common_class walk chain sides above waiting went_then met_then and_then most
returns-clause-same_base c = refl

pub returns-clause-other_base : goal.returns-clause-other_base
unfolding subtype try_then superclasses first_above common_class walk chain sides above waiting went_then met_then and_then most
returns-clause-other_base c = refl

pub returns-clause-array_to_object : goal.returns-clause-array_to_object
unfolding subtype try_then superclasses first_above common_class walk chain sides above waiting went_then met_then and_then most
returns-clause-array_to_object c = refl

pub returns-clause-array_to_cloneable : goal.returns-clause-array_to_cloneable
unfolding subtype try_then superclasses first_above common_class walk chain sides above waiting went_then met_then and_then most
returns-clause-array_to_cloneable c = refl

pub returns-clause-array_to_serializable : goal.returns-clause-array_to_serializable
unfolding subtype try_then superclasses first_above common_class walk chain sides above waiting went_then met_then and_then most
returns-clause-array_to_serializable c = refl

pub returns-clause-array_to_class : goal.returns-clause-array_to_class
unfolding subtype try_then superclasses first_above common_class walk chain sides above waiting went_then met_then and_then most
returns-clause-array_to_class c = refl

pub returns-clause-class_to_array : goal.returns-clause-class_to_array
unfolding subtype try_then superclasses first_above common_class walk chain sides above waiting went_then met_then and_then most
returns-clause-class_to_array c = refl

pub returns-clause-by_components : goal.returns-clause-by_components
unfolding subtype try_then superclasses first_above common_class walk chain sides above waiting went_then met_then and_then most
returns-clause-by_components c = refl

pub returns-clause-array_to_objects : goal.returns-clause-array_to_objects
unfolding subtype try_then superclasses first_above common_class walk chain sides above waiting went_then met_then and_then most
returns-clause-array_to_objects c = refl

pub returns-clause-base_to_objects : goal.returns-clause-base_to_objects
unfolding subtype try_then superclasses first_above common_class walk chain sides above waiting went_then met_then and_then most
returns-clause-base_to_objects c = refl
