-- Serves private functions: which instruction begins at an offset.
use Rattle.std.specs.Prelude.{◌≡◌, ℕ, List}
use Rattle.je_instr.specs.Decoding.{Begins}

-- at the offset of each instruction stands its index
abbrev pub Places : List ℕ → List ℕ → Type 0
Places starts places = (offset index : ℕ) → Begins starts offset index → Begins places index offset

-- no offset is that of two instructions
abbrev pub AreApart : List ℕ → Type 0
AreApart starts = (offset k l : ℕ) → Begins starts offset k → Begins starts offset l → k ≡ l
