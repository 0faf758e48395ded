-- The slots and shapes of the program, as those that the definitions speak of.
use Rattle.std.specs.Prelude.{ℕ, List, [], map, Option, option_map}
use Rattle.je_shape.specs.declared.slot.Slot.{Slot}
use Rattle.je_shape.specs.declared.slot.Slot.TheVariants as slots
use Rattle.je_shape.specs.declared.slot.Shape.{Shape}
use Rattle.je_shape.specs.Slot as known
use Rattle.je_shape.specs.Shape as known_shape
use Rattle.je_shape.specs.Flow.{shape_of}

-- what a slot of the program says; null is the reference without names
abbrev pub slot_seen : Slot → known.Slot
slot_seen slots.Top = known.Top
slot_seen slots.Int = known.Is known.IntWord
slot_seen slots.Float = known.Is known.FloatWord
slot_seen slots.Long = known.Is known.LongWord
slot_seen slots.Double = known.Is known.DoubleWord
slot_seen slots.Null = known.Reference []
slot_seen slots.UninitThis = known.Is known.UninitThis
slot_seen (slots.Uninit new) = known.Is (known.Uninit new)
slot_seen (slots.Ref names) = known.Reference names

abbrev pub shape_seen : Shape → known_shape.Shape
shape_seen s = shape_of (map slot_seen s.stack) (map slot_seen s.locals)

-- of each instruction, and none where it is not reached
abbrev pub shapes_seen : List (Option Shape) → List (Option known_shape.Shape)
shapes_seen list = map (option_map shape_seen) list

-- slots with the kinds in which they are used
abbrev pub uses_seen : List (ℕ × Slot) → List (ℕ × known.Slot)
uses_seen used = map (λ u. (u.0, slot_seen u.1)) used
