-- Serves private functions: where a walk over the code stops.
use Rattle.std.specs.Prelude.{ℕ, ◌<◌, List, length}
use Rattle.je_consts.specs.declared.place.Place.{Place}
use Rattle.je_instr.specs.declared.fault.CodeFault.{CodeFault}
use Rattle.je_instr.specs.declared.instr.Instr.{Instr}
use Rattle.je_instr.specs.Decoding.{Follow, IsStop}

-- instructions stand up to an offset within the code, and none stands there
pub record StopsAt (consts : List Place) (code : List ℕ) (fault : CodeFault) : Type 0 where
  pub located : List Instr
  pub starts : List ℕ
  pub at : ℕ
  pub follow : Follow consts code 0 located starts at
  pub within : at < length code
  pub stop : IsStop consts code at fault
