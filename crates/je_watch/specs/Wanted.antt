-- What is wanted of a value by a slot, and what is known of an index by a list of shapes.
use Rattle.std.specs.Prelude.{ℕ, List, Option, Some, None, slice_get}
use Rattle.je_machine.specs.Value.{Kind, ReferenceKind}
use Rattle.je_shape.specs.Slot.{Slot, Top, Is, Reference}
use Rattle.je_shape.specs.Shape.{Shape, Known, Nothing, Has}
use Rattle.je_fit.specs.Fits.{kind_of_word}

-- the kind that a value has, or none where it may be anything
abbrev pub kind_wanted : Slot → Option Kind
kind_wanted Top = None
kind_wanted (Is word) = Some (kind_of_word word)
kind_wanted (Reference names) = Some ReferenceKind

abbrev pub known_by : Option (Option Shape) → Known
known_by (Some (Some s)) = Has s
known_by _ = Nothing

-- an index without a shape is not reached
abbrev pub known_there : List (Option Shape) → ℕ → Known
known_there shapes place = known_by (slice_get shapes place)
