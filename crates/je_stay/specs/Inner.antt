-- Shapes at the indexes of code that is laid out, inside blocks too (JVMS 4.10.1).
use Rattle.std.specs.Prelude.{◌≡◌, ℕ, zero, suc, ◌+◌, ◌-◌, ◌<◌, ◌≤◌, List, [], ◌∷◌, length}
use Rattle.std.specs.Prelude.{Option, Some, None, nat_lt, if◌then◌else◌, slice_get, IsTrue}
use Rattle.std.specs.List.{AllByRecursion}
use Rattle.je_machine.specs.Value.{Kind, Value}
use Rattle.je_machine.specs.Classes.{Classes}
use Rattle.je_machine.specs.Outside.{Outside}
use Rattle.je_machine.specs.Operation.{Operation, Handler, Program}
use Rattle.je_machine.specs.Frame.{Frame, Flow, Falls, Jumps, Leaves, Raises, Halts, perform}
use Rattle.je_machine.specs.Step.{Returned}
use Rattle.je_machine.specs.Machine.{Outer, catcher}
use Rattle.je_shape.specs.Shape.{Known, Nothing}
use Rattle.je_shape.specs.Least.{Assignment}
use Rattle.je_fit.specs.Fits.{fits_known}
use Rattle.je_splice.specs.Block.{Block}
use Rattle.je_splice.specs.Reference.{Performs}
use Rattle.je_splice.specs.Layout.{Item, Keeps, Puts, width}
use Rattle.je_stay.specs.Keeping.{MayEnd, ThrowKeeps, DoingKeeps}

-- ---- what is known of indexes

-- At an index of an item's code, which counts from its first instruction, by what is known of
-- places and in its block. Behind its own code stands the jump, where what is known of the place to
-- which the item leads is known.
abbrev pub known_of_item : Assignment → Assignment → ℕ → Item Operation Block → Assignment
known_of_item x inner place (Keeps over operation) zero = x place
known_of_item x inner place (Keeps over operation) (suc index) = x (suc place + over)
known_of_item x inner place (Puts over block) index =
    if nat_lt index (length block.code) then inner index else x (suc place + over)

-- of items from a place on, by what is known in the block of each place
abbrev pub known_along : Assignment → (ℕ → Assignment) → ℕ → List (Item Operation Block)
    → Assignment
known_along x inner place [] index = Nothing
known_along x inner place (item ∷ items) index =
    if nat_lt index (width item) then known_of_item x (inner place) place item index
    else known_along x inner (suc place) items (index - width item)

-- ---- blocks that keep to their shapes

-- What an instruction of a block comes to fits: jumps and its own handlers stay in the block, other
-- throws go where those of its place do.
abbrev pub OwnThrowKeeps : Assignment → Assignment → Option ℕ → Option ℕ → Value → List Value
    → Type 0
OwnThrowKeeps x inner (Some own) target reference locals =
    ThrowKeeps inner (Some own) reference locals
OwnThrowKeeps x inner None target reference locals = ThrowKeeps x target reference locals

abbrev pub InnerKeeps : Option (Option Kind) → Assignment → Assignment → Known → Outer → Outer
    → List Value → Flow → Type 0
InnerKeeps kind x inner next own outer locals (Falls frame outside) =
    IsTrue (fits_known next frame)
InnerKeeps kind x inner next own outer locals (Jumps target frame outside) =
    IsTrue (fits_known (inner target) frame)
InnerKeeps kind x inner next own outer locals (Leaves result outside) =
    MayEnd kind (Returned result)
InnerKeeps kind x inner next own outer locals (Raises reference outside) =
    OwnThrowKeeps x inner (own outside.heap reference) (outer outside.heap reference) reference
    locals
InnerKeeps kind x inner next own outer locals (Halts outside) = Unit {0}

-- frames that fit the one fit the other
abbrev pub Gives : Known → Known → Type 0
Gives known other = (frame : Frame) → IsTrue (fits_known known frame)
    → IsTrue (fits_known other frame)

-- It begins with what is known of its place and ends with what is known of the one to which it
-- leads. Behind its end nothing is known, and its entries cover nothing there.
pub record BlockKeeps (kind : Option (Option Kind)) (x inner : Assignment) (place next : ℕ)
    (outer : Classes → Outer) (block : Block) : Type 0 where
  pub begins : Gives (x place) (inner 0)
  pub each : (index : ℕ) (operation : Operation) → slice_get block.code index ≡ Some operation
      → (classes : Classes) (frame : Frame) (outside : Outside)
      → IsTrue (fits_known (inner index) frame)
      → InnerKeeps kind x inner (inner (suc index)) (catcher block.handlers classes index)
      (outer classes) frame.locals (perform classes operation frame outside)
  pub ends : Gives (inner (length block.code)) (x next)
  pub behind : (index : ℕ) → length block.code < index → inner index ≡ Nothing
  pub within : AllByRecursion (λ (h : Handler). h.end ≤ length block.code) block.handlers

-- each item keeps to the shapes
abbrev pub CodeKeeps : Option (Option Kind) → Assignment → Assignment → ℕ → (Classes → Outer)
    → Item Operation Block → Type 0
CodeKeeps kind x inner place outer (Keeps over operation) =
    DoingKeeps kind x (x place) (x (suc place + over)) outer (Performs operation)
CodeKeeps kind x inner place outer (Puts over block) =
    BlockKeeps kind x inner place (suc place + over) outer block

pub record LaidKeeps (kind : Option (Option Kind)) (x : Assignment) (inner : ℕ → Assignment)
    (items : List (Item Operation Block)) (handlers : List Handler) : Type 0 where
  pub each : (place : ℕ) (item : Item Operation Block) → slice_get items place ≡ Some item
      → CodeKeeps kind x (inner place) place (λ classes. catcher handlers classes place) item
  pub behind : (place : ℕ) → length items ≤ place → x place ≡ Nothing

-- ---- programs that keep to shapes

-- each instruction does; behind the code nothing is known
pub record ProgramKeeps (kind : Option (Option Kind)) (x : Assignment) (q : Program) : Type 0 where
  pub each : (index : ℕ) (operation : Operation) → slice_get q.operations index ≡ Some operation
      → DoingKeeps kind x (x index) (x (suc index)) (λ classes. catcher q.handlers classes index)
      (Performs operation)
  pub behind : (index : ℕ) → length q.operations ≤ index → x index ≡ Nothing

-- ---- small blocks

-- what is known in a block without code, and in one of one instruction
abbrev pub one_known : Known → Assignment
one_known before zero = before
one_known before (suc index) = Nothing

abbrev pub two_known : Known → Known → Assignment
two_known before next zero = before
two_known before next (suc zero) = next
two_known before next (suc (suc index)) = Nothing
