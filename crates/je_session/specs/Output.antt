-- The output of a run: what it puts and writes, step by step.
use Rattle.std.specs.Prelude.{◌≡◌, ℕ, ◌⊎◌, List, [], ◌∷◌, ◌++◌, Option, Some, None}
use Rattle.std.specs.Option.{option_map}
use Rattle.std.specs.FinMap.{insert}
use Rattle.je_base.specs.Count.{raised}
use Rattle.je_base.specs.Files.{Contents, KeepsOthers}
use Rattle.je_base.specs.Sink.{GainsFront}
use Rattle.je_session.specs.Moment.{Moment}

-- a piece put on standard output, or the bytes written at a path
pub data Step : Type 0 where
  Put : (piece : List ℕ) → Step
  Write : (path : List ℕ) → (bytes : List ℕ) → Step

-- what a sink took, where it tells that, and how many puts there were
pub record Taken : Type 0 where
  pub bytes : Option (List ℕ)
  pub puts : ℕ

-- what lies in the files, where they tell that, how many writes there were, and what standard
-- output took
pub record Held : Type 0 where
  pub contents : Option Contents
  pub writes : ℕ
  pub out : Taken

abbrev pub taken : Option (List ℕ) → ℕ → Taken
taken bytes puts = record { bytes = bytes; puts = puts }

abbrev pub held : Option Contents → ℕ → Option (List ℕ) → ℕ → Held
held contents writes bytes puts =
    record { contents = contents; writes = writes; out = taken bytes puts }

-- what a moment has of these
abbrev pub held_of : Moment → Held
held_of m = held m.files.contents m.files.writes m.out.bytes m.out.puts

abbrev pub told_to : Moment → Taken
told_to m = taken m.err.bytes m.err.puts

-- a piece that is put
abbrev pub put : List ℕ → Taken → Taken
put piece old = taken (option_map (λ bytes. bytes ++ piece) old.bytes) (raised old.puts)

-- a put that fails: a front of the piece was taken
pub record PutFails (piece : List ℕ) (old new : Taken) : Type 0 where
  pub front : GainsFront piece old.bytes new.bytes
  pub counted : new.puts ≡ raised old.puts

-- a write that fails: what lies at its path is open
pub record WriteFails (path : List ℕ) (old new : Held) : Type 0 where
  pub others : KeepsOthers path old.contents new.contents
  pub counted : new.writes ≡ raised old.writes
  pub out : new.out ≡ old.out

-- a step that is done
abbrev pub done : Step → Held → Held
done (Put piece) old = record old { out = put piece old.out }
done (Write path bytes) old =
    record old {
      contents = option_map (λ files. insert files path bytes) old.contents;
      writes = raised old.writes;
    }

-- a step that fails
abbrev pub Fails : Step → Held → Held → Type 0
Fails (Put piece) old new =
    PutFails piece old.out new.out × (new.contents ≡ old.contents) × (new.writes ≡ old.writes)
Fails (Write path bytes) old new = WriteFails path old new

-- The steps are done in order, up to the one that fails, where one does.
abbrev pub Goes : List Step → Option Step → Held → Held → Type 0
Goes [] None old new = new ≡ old
Goes [] (Some failed) old new = ⊥
Goes (step ∷ steps) failed old new =
    ((failed ≡ Some step) × Fails step old new) ⊎ Goes steps failed (done step old) new
