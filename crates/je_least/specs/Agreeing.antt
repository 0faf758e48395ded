-- Serves private functions: local variables that agree with a frame's.
use Rattle.std.specs.Prelude.{ℕ, List}
use Rattle.je_shape.specs.Slot.{Slot}
use Rattle.je_shape.specs.Shape.{local_at}
use Rattle.je_shape.specs.Least.{LocalAgrees}

abbrev pub LocalsAgree : List Slot → List Slot → Type 0
LocalsAgree locals frame = (slot : ℕ) → LocalAgrees (local_at locals slot) (local_at frame slot)
