-- Serves private functions: what is known of an index, as the definitions speak of it.
use Rattle.std.specs.Prelude.{List, [], map, Option, Some, None}
use Rattle.je_machine.specs.Operation.{Handler}
use Rattle.je_shape.specs.declared.slot.Slot.{Slot}
use Rattle.je_least.specs.declared.known.Known.{Known}
use Rattle.je_least.specs.declared.known.Known.TheVariants as knowns
use Rattle.je_least.specs.declared.known.Coming.{Coming}
use Rattle.je_least.specs.declared.known.Coming.TheVariants as comings
use Rattle.je_shape.specs.Shape as known_shape
use Rattle.je_shape.specs.Flow.{shape_of}
use Rattle.je_shape.specs.Least.{caught}
use Rattle.je_shape.specs.Views.{slot_seen, shape_seen}

-- the shape of a stack and local variables
abbrev pub parts_seen : List Slot → List Slot → known_shape.Shape
parts_seen stack locals = shape_of (map slot_seen stack) (map slot_seen locals)

abbrev pub known_seen : Known → known_shape.Known
known_seen knowns.Nothing = known_shape.Nothing
known_seen (knowns.Has s) = known_shape.Has (shape_seen s)
known_seen knowns.Broken = known_shape.Broken

abbrev pub coming_seen : Coming → known_shape.Known
coming_seen (comings.Shape stack locals) = known_shape.Has (parts_seen stack.now locals.now)
coming_seen comings.Broken = known_shape.Broken

-- what a handler gets: the local variables from before, or what has no shape
abbrev pub thrown_seen : Option (List Slot) → Handler → known_shape.Known
thrown_seen (Some locals) h = known_shape.Has (caught h (parts_seen [] locals))
thrown_seen None h = known_shape.Broken

-- the shape that is known
abbrev pub shape_in : known_shape.Known → Option known_shape.Shape
shape_in (known_shape.Has s) = Some s
shape_in _ = None
