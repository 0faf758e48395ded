-- A reference whose places are items in a row, and the program that lays them out.
use Rattle.std.specs.Prelude.{◌≡◌, ℕ, ◌<◌, ◌≤◌, List, length, map, Some, option_map}
use Rattle.std.specs.Prelude.{slice_get, Bool, true, IsTrue, nat_lt}
use Rattle.std.specs.List.{AllByRecursion}
use Rattle.je_machine.specs.Value.{Kind}
use Rattle.je_machine.specs.Classes.{Classes}
use Rattle.je_machine.specs.Operation.{Operation, Handler, Program}
use Rattle.je_machine.specs.Frame.{Frame}
use Rattle.je_machine.specs.Step.{Goes}
use Rattle.je_machine.specs.Machine.{State}
use Rattle.je_machine.specs.Slots.{UsesBelow}
use Rattle.je_machine.specs.IndexMap.{may_fall, TargetsIn}
use Rattle.je_splice.specs.Block.{Block, Meaning}
use Rattle.je_splice.specs.Means.{BlockMeans}
use Rattle.je_splice.specs.Reference.{Doing, Performs, Means, Reference, take_reference}
use Rattle.je_splice.specs.Layout.{operation_codes, Item, Keeps, Puts, next_place, laid_code}
use Rattle.je_splice.specs.Layout.{laid_handlers}

-- a block, and what is meant by it
pub record Fragment : Type 0 where
  pub block : Block
  pub meaning : Classes → Meaning

abbrev pub doing_of : Item Operation Fragment → Doing
doing_of (Keeps over operation) = Performs operation
doing_of (Puts over fragment) = Means fragment.meaning

-- what is meant at each place, one after the other
abbrev pub reference_of : List Kind → List (Item Operation Fragment) → List Handler → Reference
reference_of parameters items handlers =
    record {
      parameters = parameters;
      doing = λ place. option_map doing_of (slice_get items place);
      handlers = handlers;
      next = next_place items;
      home = λ place. place;
    }

abbrev pub with_block : Item Operation Fragment → Item Operation Block
with_block (Keeps over operation) = Keeps over operation
with_block (Puts over fragment) = Puts over fragment.block

abbrev pub blocks_of : List (Item Operation Fragment) → List (Item Operation Block)
blocks_of items = map with_block items

-- the program that has the blocks in place
abbrev pub laid : List Kind → List (Item Operation Fragment) → List Handler → Program
laid parameters items handlers =
    record {
      parameters = parameters;
      operations = laid_code operation_codes (blocks_of items);
      handlers = laid_handlers operation_codes (blocks_of items) handlers;
    }

-- An instruction uses no local variable from the limit on. A block does what is meant, and its
-- entries cover nothing behind it.
abbrev pub FitsItem : ℕ → (Frame → Bool) → Item Operation Fragment → Type 0
FitsItem limit ok (Keeps over operation) = UsesBelow limit operation
FitsItem limit ok (Puts over fragment) =
    BlockMeans limit ok fragment.block fragment.meaning
    × AllByRecursion (λ (h : Handler). h.end ≤ length fragment.block.code) fragment.block.handlers

-- the block does what is meant with any frame, and its entries cover nothing behind it
pub record FitsAnywhere (limit : ℕ) (fragment : Fragment) : Type 0 where
  pub means : (ok : Frame → Bool) → BlockMeans limit ok fragment.block fragment.meaning
  pub within : AllByRecursion (λ (h : Handler). h.end ≤ length fragment.block.code)
      fragment.block.handlers

-- Each item fits. The test on frames holds at places of the items alone, and each step of the
-- reference keeps it.
pub record Fits (limit : ℕ) (ok : ℕ → Frame → Bool) (parameters : List Kind)
    (items : List (Item Operation Fragment)) (handlers : List Handler) : Type 0 where
  pub each : (place : ℕ) (item : Item Operation Fragment) → slice_get items place ≡ Some item
      → FitsItem limit (ok place) item
  pub inside : (place : ℕ) (frame : Frame) → IsTrue (ok place frame) → place < length items
  pub kept : (classes : Classes) (bound left : ℕ) (s t : State) → IsTrue (ok s.place s.frame)
      → take_reference (reference_of parameters items handlers) classes bound s ≡ Goes left t
      → IsTrue (ok t.place t.frame)

-- ---- places that lead to places

abbrev pub inside : List (Item Operation Fragment) → ℕ → Bool
inside items place = nat_lt place (length items)

abbrev pub may_lead_on : Item Operation Fragment → Bool
may_lead_on (Keeps over operation) = may_fall operation
may_lead_on (Puts over fragment) = true

abbrev pub HasTargetsIn : (ℕ → Bool) → Item Operation Fragment → Type 0
HasTargetsIn inside (Keeps over operation) = TargetsIn inside operation
HasTargetsIn inside (Puts over fragment) = Unit {0}

-- all to which items and entries lead is the place of an item
pub record AreClosed (items : List (Item Operation Fragment)) (handlers : List Handler) : Type 0
  where
    pub targets : (place : ℕ) (item : Item Operation Fragment) → slice_get items place ≡ Some item
        → HasTargetsIn (inside items) item
    pub next : (place : ℕ) (item : Item Operation Fragment) → slice_get items place ≡ Some item
        → IsTrue (may_lead_on item) → IsTrue (inside items (next_place items place))
    pub caught : AllByRecursion (λ (h : Handler). IsTrue (inside items h.target)) handlers
