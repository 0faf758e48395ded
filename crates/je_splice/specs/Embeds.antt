-- A program that has at each place what a reference does there.
use Rattle.std.specs.Prelude.{◌≡◌, ℕ, suc, ◌+◌, ◌<◌, ◌≤◌, ◌⊎◌, length, Option, Some, None}
use Rattle.std.specs.Prelude.{Bool, IsTrue, option_map, slice_get}
use Rattle.je_machine.specs.Value.{Value}
use Rattle.je_machine.specs.Heap.{Heap}
use Rattle.je_machine.specs.Classes.{Classes}
use Rattle.je_machine.specs.Operation.{Operation, Goto, Program}
use Rattle.je_machine.specs.Frame.{Frame}
use Rattle.je_machine.specs.Step.{Goes}
use Rattle.je_machine.specs.Machine.{State, Outer, catcher}
use Rattle.je_machine.specs.Moved.{retargeted}
use Rattle.je_machine.specs.Slots.{UsesBelow}
use Rattle.je_splice.specs.Block.{Block, Meaning, Holds}
use Rattle.je_splice.specs.Means.{BlockMeans}
use Rattle.je_splice.specs.Reference.{Doing, Performs, Means, Reference, thrown_at, take_reference}

-- the place is the other one, or a jump to it stands there
abbrev pub Skips : Program → ℕ → ℕ → Type 0
Skips q place other = (place ≡ other) ⊎ (slice_get q.operations place ≡ Some (Goto other))

-- where throws of a place go in the program
abbrev pub moved_outer : Reference → (ℕ → ℕ) → Classes → ℕ → Outer
moved_outer r to classes place heap reference =
    option_map to (thrown_at r classes place heap reference)

-- The instruction stands there, moved, and uses no local variable from the limit on. Its throws go
-- where the reference's do.
pub record HasOperation (r : Reference) (q : Program) (to : ℕ → ℕ) (limit place : ℕ)
    (operation : Operation) : Type 0 where
  pub stands : slice_get q.operations (to place) ≡ Some (retargeted to operation)
  pub uses : UsesBelow limit operation
  pub handles : (classes : Classes) (heap : Heap) (reference : Value) →
      catcher q.handlers classes (to place) heap reference
      ≡ moved_outer r to classes place heap reference
  pub skips : Skips q (suc (to place)) (to (r.next place))

-- A block that does what is meant stands there. The next place is of a lower rank, so that no run
-- goes round without an instruction.
pub record HasMeaning (r : Reference) (q : Program) (to : ℕ → ℕ) (limit place : ℕ)
    (ok : Frame → Bool) (rank : ℕ → ℕ) (meaning : Classes → Meaning) : Type 0 where
  pub block : Block
  pub means : BlockMeans limit ok block meaning
  pub holds : (classes : Classes) →
      Holds q classes (to place) block (moved_outer r to classes place)
  pub skips : Skips q (to place + length block.code) (to (r.next place))
  pub falls : rank (r.next place) < rank place

-- what is done at the place stands in the program; where there is nothing no run comes
abbrev pub HasPlace : Reference → Program → (ℕ → ℕ) → ℕ → ℕ → (Frame → Bool) → (ℕ → ℕ)
    → Option Doing → Type 0
HasPlace r q to limit place ok rank (Some (Performs operation)) =
    HasOperation r q to limit place operation
HasPlace r q to limit place ok rank (Some (Means meaning)) =
    HasMeaning r q to limit place ok rank meaning
HasPlace r q to limit place ok rank None = (frame : Frame) → IsTrue (ok frame) → ⊥

-- The program has each place of the reference where the map sends it. A test holds of the frames
-- with which the run comes to each place: each step keeps it.
pub record Embeds (r : Reference) (q : Program) (to : ℕ → ℕ) (limit : ℕ) (ok : ℕ → Frame → Bool)
    (rank : ℕ → ℕ) (most : ℕ) : Type 0 where
  pub parameters : q.parameters ≡ r.parameters
  pub begins : Skips q 0 (to 0)
  pub each : (place : ℕ) → HasPlace r q to limit place (ok place) rank (r.doing place)
  pub ranks : (place : ℕ) → rank place ≤ most
  pub kept : (classes : Classes) (bound left : ℕ) (s t : State) → IsTrue (ok s.place s.frame)
      → take_reference r classes bound s ≡ Goes left t → IsTrue (ok t.place t.frame)
