-- Serves private functions: what is known of an index once more has come to it.
use Rattle.std.specs.Prelude.{Option, Some, None}
use Rattle.je_shape.specs.Shape.{Shape, Known, KnownBelow}
use Rattle.je_shape.specs.Least.{Arrives}

-- the least that keeps what was known there and takes what comes
pub record IsArrival (frame : Option Shape) (known there more : Known) : Type 0 where
  pub keeps : KnownBelow there more
  pub takes : Arrives frame known more
  pub least :
      (above : Known) → KnownBelow there above → Arrives frame known above → KnownBelow more above

-- that, or none where it is taken already
abbrev pub IsArrivalOrNone : Option Shape → Known → Known → Option Known → Type 0
IsArrivalOrNone frame known there (Some more) = IsArrival frame known there more
IsArrivalOrNone frame known there None = Arrives frame known there
