-- The programs that a decoded method may become.
use Rattle.std.specs.Prelude.{ℕ, List, Bool}
use Rattle.je_consts.specs.declared.place.Place.{Place}
use Rattle.je_instr.specs.declared.program.Decoded.{Decoded}
use Rattle.je_instr.specs.declared.program.RawHandler.{RawHandler}
use Rattle.je_instr.specs.CodeProgram.{CodeProgram}
use Rattle.je_instr.specs.Decoding.{Decodes}
use Rattle.je_machine.specs.Operation.{Program}

-- It is the program of every method of which this was decoded, of this descriptor and static or
-- not.
abbrev pub IsProgramOf : List Place → Bool → List ℕ → Decoded → Program → Type 0
IsProgramOf consts is_static text decoded program =
    (code : List ℕ) (table : List RawHandler) → Decodes consts code table decoded
    → CodeProgram consts is_static text code table program

-- No method of which this was decoded is a program.
abbrev pub HasNoProgram : List Place → Bool → List ℕ → Decoded → Type 0
HasNoProgram consts is_static text decoded =
    (code : List ℕ) (table : List RawHandler) (program : Program)
    → Decodes consts code table decoded → CodeProgram consts is_static text code table program → ⊥
