-- Code that is put into a program, and what a piece of source means there.
use Rattle.std.specs.Prelude.{◌≡◌, ℕ, ◌+◌, ◌<◌, List, length, Option, Some, option_map, slice_get}
use Rattle.std.specs.Option.{option_or}
use Rattle.je_machine.specs.Value.{Value}
use Rattle.je_machine.specs.Heap.{Heap}
use Rattle.je_machine.specs.Classes.{Classes}
use Rattle.je_machine.specs.Outside.{Outside}
use Rattle.je_machine.specs.Operation.{Operation, Handler, Program}
use Rattle.je_machine.specs.Frame.{Frame}
use Rattle.je_machine.specs.Machine.{Outer, catcher}
use Rattle.je_machine.specs.Moved.{retargeted}

-- Instructions and exception table entries whose places count from the first of them. The length
-- is the place behind.
pub record Piece (A H : Type 0) : Type 0 where
  pub code : List A
  pub handlers : List H

abbrev pub Block : Type 0
Block = Piece Operation Handler

-- ---- what is meant

-- It completes with a stack, throws, or returns from the method.
pub data Exit : Type 0 where
  Completes : (stack : List Value) → Exit
  Throws : (reference : Value) → Exit
  Returns : (result : Option Value) → Exit

-- It leaves with this bound left, or stays: the bound is used up, or no answer comes.
pub data Meant : Type 0 where
  Exits : (exit : Exit) (left : ℕ) (locals : List Value) (outside : Outside) → Meant
  Stays : (left : ℕ) (locals : List Value) (outside : Outside) → Meant

-- by the bound, the whole stack and the local variables, and the outside
abbrev pub Meaning : Type 0
Meaning = ℕ → Frame → Outside → Meant

-- ---- a program that has a block at a place

-- the code stands there, its targets counted from there
abbrev pub HasCode : List Operation → ℕ → List Operation → Type 0
HasCode operations at code =
    (k : ℕ) (operation : Operation) → slice_get code k ≡ Some operation
    → slice_get operations (at + k) ≡ Some (retargeted (λ target. at + target) operation)

-- The block stands there. What is thrown in it goes to the first of its own entries that fits, and
-- else where it is said to go.
pub record Holds (q : Program) (classes : Classes) (at : ℕ) (block : Block) (outer : Outer) : Type 0
  where
    pub code : HasCode q.operations at block.code
    pub handles : (k : ℕ) (heap : Heap) (reference : Value) → k < length block.code →
        catcher q.handlers classes (at + k) heap reference
        ≡ option_or
        (option_map (λ target. at + target) (catcher block.handlers classes k heap reference))
        (outer heap reference)
