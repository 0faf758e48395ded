-- Serves private functions: frames as the definitions speak of them.
use Rattle.std.specs.Prelude.{ℕ}
use Rattle.je_shape.specs.declared.slot.Shape as program
use Rattle.je_shape.specs.Shape.{Shape}
use Rattle.je_shape.specs.Views.{shape_seen}

abbrev pub frame_seen : ℕ × program.Shape → ℕ × Shape
frame_seen f = (f.0, shape_seen f.1)
