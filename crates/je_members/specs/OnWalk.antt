-- The names that a walk comes to.
use Rattle.std.specs.Prelude.{Bool, true, false, cond, List, [], ◌∷◌, ◌++◌}
use Rattle.std.specs.Prelude.{Option, Some, None, Result, Ok, Err}
use Rattle.je_world.specs.declared.link.Link.{Link}
use Rattle.je_world.specs.declared.link.Link.TheVariants.{NotFound, Broken, Cycle}
use Rattle.je_world.specs.Question.{Name}
use Rattle.je_world.specs.World.{is_listed}

-- the name of what is no class, behind the classes of a walk
abbrev pub bad_name : Option Link → List Name
bad_name None = []
bad_name (Some (NotFound name)) = name ∷ []
bad_name (Some (Broken name)) = name ∷ []
bad_name (Some (Cycle name)) = []

-- the names that a walk comes to: its classes, and then what is no class
abbrev pub come_to : List Name → Option Link → List Name
come_to names end = names ++ bad_name end

-- whether a name is one of those
abbrev pub meets_one : Name → List Name → Bool
meets_one sup [] = false
meets_one sup (name ∷ names) = cond (is_listed name (sup ∷ [])) true (meets_one sup names)

-- met, or not met on a walk with this end
abbrev pub answered : Bool → Option Link → Result Bool Link
answered true end = Ok true
answered false None = Ok false
answered false (Some bad) = Err bad
