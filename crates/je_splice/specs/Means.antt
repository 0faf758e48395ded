-- A block does what is meant, in every program that has it.
use Rattle.std.specs.Prelude.{ℕ, ◌+◌, ◌<◌, ◌≤◌, List, [], ◌∷◌, length, Option, Some, None}
use Rattle.std.specs.Prelude.{Bool, IsTrue}
use Rattle.je_machine.specs.Value.{Value}
use Rattle.je_machine.specs.Classes.{Classes}
use Rattle.je_machine.specs.Outside.{Outside}
use Rattle.je_machine.specs.Operation.{Program}
use Rattle.je_machine.specs.Frame.{Frame, frame_of}
use Rattle.je_machine.specs.Step.{Returned, Thrown, Chain}
use Rattle.je_machine.specs.Machine.{State, Outer, state_at, machine_step}
use Rattle.je_machine.specs.Slots.{AgreeBelow}
use Rattle.je_splice.specs.Block.{Block, Exit, Completes, Throws, Returns, Meant, Exits, Stays}
use Rattle.je_splice.specs.Block.{Meaning, Holds}
use Rattle.je_splice.specs.Stretch.{Closes, Idles}

-- ---- where the run goes on from a block

-- a throw comes to a handler by at least one step, or ends the method
abbrev pub IsCaught : Program → Classes → ℕ → State → Option ℕ → Value → List Value → Outside
    → Type 0
IsCaught q classes count t (Some target) reference locals outside =
    (0 < count) × Chain (machine_step q classes) count t
    (state_at target (frame_of (reference ∷ []) locals) outside)
IsCaught q classes count t None reference locals outside =
    Closes (machine_step q classes) count t (Thrown reference) locals outside

-- By so many steps the run comes to the place behind, to where the throw goes, or to the end of
-- the method.
abbrev pub Arrives : Program → Classes → ℕ → Outer → ℕ → State → Exit → List Value → Outside
    → Type 0
Arrives q classes end outer count t (Completes stack) locals outside =
    Chain (machine_step q classes) count t (state_at end (frame_of stack locals) outside)
Arrives q classes end outer count t (Throws reference) locals outside =
    IsCaught q classes count t (outer outside.heap reference) reference locals outside
Arrives q classes end outer count t (Returns result) locals outside =
    Closes (machine_step q classes) count t (Returned result) locals outside

-- The run leaves as is meant. Its local variables are those that are meant below the limit; from
-- there on they are the block's own. It does at least as many steps as the meaning spends.
pub record LeavesAs (q : Program) (classes : Classes) (end : ℕ) (outer : Outer) (limit bound : ℕ)
    (t : State) (exit : Exit) (left : ℕ) (meant : List Value) (outside : Outside) : Type 0 where
  pub count : ℕ
  pub locals : List Value
  pub spends : left ≤ bound
  pub near : bound ≤ left + count
  pub same : AgreeBelow limit meant locals
  pub arrives : Arrives q classes end outer count t exit locals outside

abbrev pub EndsAs : Program → Classes → ℕ → Outer → ℕ → ℕ → State → Meant → Type 0
EndsAs q classes end outer limit bound t (Exits exit left locals outside) =
    LeavesAs q classes end outer limit bound t exit left locals outside
EndsAs q classes end outer limit bound t (Stays left locals outside) =
    Idles q classes bound t outside.events

-- Wherever a program holds the block, a run that enters it with a frame of this sort ends there as
-- is meant. The whole stack is part of what is meant, so that nothing under the operands changes.
pub record BlockMeans (limit : ℕ) (ok : Frame → Bool) (block : Block) (meaning : Classes → Meaning)
    : Type 0 where
  pub by : (q : Program) (classes : Classes) (at : ℕ) (outer : Outer) →
      Holds q classes at block outer
      → (bound : ℕ) (stack locals own : List Value) (outside : Outside)
      → IsTrue (ok (frame_of stack locals)) → AgreeBelow limit locals own
      → EndsAs q classes (at + length block.code) outer limit bound
      (state_at at (frame_of stack own) outside)
      (meaning classes bound (frame_of stack locals) outside)
