-- What is told at one moment of the files and the two streams that a run is given.
use Rattle.std.specs.Prelude.{ℕ, List, Option}
use Rattle.je_base.specs.Count.{HasFault}
use Rattle.je_base.specs.Files.{Contents}

-- what lies in the files, where they tell it, how many writes there were, and how many faults
pub record FilesState : Type 0 where
  pub contents : Option Contents
  pub writes : ℕ
  pub faults : ℕ

-- what a stream took, where it tells it, how many puts there were, and how many faults
pub record SinkState : Type 0 where
  pub bytes : Option (List ℕ)
  pub puts : ℕ
  pub faults : ℕ

pub record Moment : Type 0 where
  pub files : FilesState
  pub out : SinkState
  pub err : SinkState

abbrev pub files_of : {F : Type 0} → (F → Option Contents) → (F → ℕ) → (F → ℕ) → F → FilesState
files_of contents writes faults files =
    record { contents = contents files; writes = writes files; faults = faults files }

abbrev pub sink_of : {S : Type 0} → (S → Option (List ℕ)) → (S → ℕ) → (S → ℕ) → S → SinkState
sink_of bytes puts faults sink =
    record { bytes = bytes sink; puts = puts sink; faults = faults sink }

abbrev pub moment : FilesState → SinkState → SinkState → Moment
moment files out err = record { files = files; out = out; err = err }

-- a fault of the files, of standard output or of standard error is on record from one moment to the
-- other
abbrev pub FilesFault : Moment → Moment → Type 0
FilesFault before after = HasFault before.files.faults after.files.faults

abbrev pub OutFault : Moment → Moment → Type 0
OutFault before after = HasFault before.out.faults after.out.faults

abbrev pub ErrFault : Moment → Moment → Type 0
ErrFault before after = HasFault before.err.faults after.err.faults
