-- The first test that fails where bytes are no Code attribute that can be decoded.
use Rattle.std.specs.Prelude.{◌≡◌, ◌≢◌, ℕ, List, [], ◌++◌, length}
use Rattle.je_base.specs.Parts.{Breaks}
use Rattle.je_consts.specs.declared.place.Place.{Place}
use Rattle.je_instr.specs.declared.fault.CodeFault.{CodeFault}
use Rattle.je_instr.specs.declared.fault.CodeFault.TheVariants.{BadLayout}
use Rattle.je_instr.specs.Decoding as decoding
use Rattle.je_code.specs.Code.{Code, code_format, code_parts, CodeBytes}

-- The first test that fails: of the parts in order, of the end, and then of the instructions and
-- the exception table.
pub data FirstFault (consts : List Place) (info : List ℕ) : CodeFault → Type 0 where
  -- the bytes follow some Code up to a part that does not stand
  breaks : (c : Code) (fault : CodeFault) → Breaks code_format info 0 (code_parts c) fault
      → FirstFault consts info fault
  -- a Code, and something behind it
  trailing : (c : Code) (front rest : List ℕ) → info ≡ front ++ rest → rest ≢ []
      → CodeBytes front c → FirstFault consts info (BadLayout (length front))
  -- a Code whose instructions or exception table are malformed
  malformed : (c : Code) (fault : CodeFault) → CodeBytes info c
      → decoding.FirstFault consts c.code c.handlers fault → FirstFault consts info fault
