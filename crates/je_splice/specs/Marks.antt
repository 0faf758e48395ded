-- Pieces at the indexes of a method's instructions, put in a row with them.
use Rattle.std.specs.Prelude.{◌≡◌, ℕ, zero, suc, ◌+◌, ◌<◌, List, [], ◌∷◌, ◌++◌, length, map, Option}
use Rattle.std.specs.Prelude.{Some, None, Bool, true, false, IsTrue, IfSome, slice_get}
use Rattle.std.specs.List.{AllByRecursion}
use Rattle.je_machine.specs.Classes.{Classes}
use Rattle.je_machine.specs.Frame.{Frame}
use Rattle.je_machine.specs.Machine.{State}
use Rattle.je_machine.specs.Step.{Goes}
use Rattle.je_machine.specs.Operation.{Operation, Handler, Program}
use Rattle.je_splice.specs.Block.{Piece}
use Rattle.je_splice.specs.Reference.{Doing, Performs, Means, Reference, take_reference}
use Rattle.je_splice.specs.Layout.{Codes, operation_codes, Item, Keeps, Puts, next_place}
use Rattle.je_splice.specs.Layout.{moved_to}
use Rattle.je_splice.specs.Laid.{Fragment, reference_of, laid}

-- What is put, by the index of an instruction: in the way of the handlers that lead there; before
-- it, where jumps to it pass by; before it, where they meet it; and in its place. Which of the
-- pieces in the way of its target an entry of the exception table meets. And whether a piece may
-- lead to what is behind it.
pub record Marks (X H : Type 0) : Type 0 where
  pub entries : ℕ → List X
  pub passed : ℕ → List X
  pub met : ℕ → List X
  pub instead : ℕ → Option X
  pub entry_of : H → Option ℕ
  pub completes : X → Bool

-- ---- the places of an index: entries, passed, met, and the instruction or the piece in its place

abbrev pub places_of : {X H : Type 0} → Marks X H → ℕ → ℕ
places_of m i = suc (length (m.entries i) + (length (m.passed i) + length (m.met i)))

-- a jump stands before all where the first instruction has entries
abbrev pub lead_width : ℕ → ℕ
lead_width zero = 0
lead_width (suc entries) = 1

-- the first place of an index: ranges go by this
abbrev pub first_of : {X H : Type 0} → Marks X H → ℕ → ℕ
first_of m zero = lead_width (length (m.entries 0))
first_of m (suc i) = first_of m i + places_of m i

-- where jumps to an index arrive: behind its entries and what they pass by
abbrev pub arrive : {X H : Type 0} → Marks X H → ℕ → ℕ
arrive m i = first_of m i + (length (m.entries i) + length (m.passed i))

-- the place of the instruction itself
abbrev pub stand : {X H : Type 0} → Marks X H → ℕ → ℕ
stand m i = arrive m i + length (m.met i)

-- nothing is put but in the place of instructions
pub record OnlyInstead {X H : Type 0} (m : Marks X H) : Type 0 where
  pub entries : (i : ℕ) → m.entries i ≡ []
  pub passed : (i : ℕ) → m.passed i ≡ []
  pub met : (i : ℕ) → m.met i ≡ []

-- each piece that is put is so
pub record EachPut {X H : Type 0} (P : X → Type 0) (m : Marks X H) : Type 0 where
  pub entries : (i : ℕ) → AllByRecursion P (m.entries i)
  pub passed : (i : ℕ) → AllByRecursion P (m.passed i)
  pub met : (i : ℕ) → AllByRecursion P (m.met i)
  pub instead : (i : ℕ) → IfSome (m.instead i) P

-- ---- the items

-- so many places are passed behind what leads on
abbrev pub over_if : Bool → ℕ → ℕ
over_if true places = places
over_if false places = 0

-- an entry leads past those behind it, and past so many places more
abbrev pub entry_items : {A X H : Type 0} → Marks X H → ℕ → List X → List (Item A X)
entry_items m passed [] = []
entry_items m passed (x ∷ xs) =
    Puts (over_if (m.completes x) (length xs + passed)) x ∷ entry_items m passed xs

-- the instruction, or the piece in its place; the next index's entries are passed
abbrev pub last_item : {A X H : Type 0} → Codes A H → Marks X H → ℕ → A → Option X → Item A X
last_item codes m i instruction None =
    Keeps (over_if (codes.falls instruction) (length (m.entries (suc i))))
    (codes.keep (arrive m) instruction)
last_item codes m i instruction (Some x) =
    Puts (over_if (m.completes x) (length (m.entries (suc i)))) x

abbrev pub index_items : {A X H : Type 0} → Codes A H → Marks X H → ℕ → A → List (Item A X)
index_items codes m i instruction =
    entry_items m (length (m.passed i)) (m.entries i)
    ++ (map (λ x. Puts 0 x) (m.passed i)
    ++ (map (λ x. Puts 0 x) (m.met i) ++ last_item codes m i instruction (m.instead i) ∷ []))

abbrev pub items_from : {A X H : Type 0} → Codes A H → Marks X H → ℕ → List A → List (Item A X)
items_from codes m i [] = []
items_from codes m i (instruction ∷ code) =
    index_items codes m i instruction ++ items_from codes m (suc i) code

abbrev pub lead_items : {A X H : Type 0} → Codes A H → ℕ → List (Item A X)
lead_items codes zero = []
lead_items codes (suc entries) = Keeps 0 (codes.jump 0 (suc (suc entries))) ∷ []

abbrev pub marked_items : {A X H : Type 0} → Codes A H → Marks X H → List A → List (Item A X)
marked_items codes m code = lead_items codes (length (m.entries 0)) ++ items_from codes m 0 code

-- ---- the exception table

abbrev pub entry_target : {X H : Type 0} → Marks X H → Option ℕ → ℕ → ℕ
entry_target m None i = arrive m i
entry_target m (Some entry) i = first_of m i + entry

abbrev pub marked_handlers : {A X H : Type 0} → Codes A H → Marks X H → List H → List H
marked_handlers codes m handlers =
    map (λ h. codes.move (first_of m) (first_of m) (entry_target m (m.entry_of h)) h) handlers

-- ---- what stands where

-- The piece stands at the place. Where it leads on, it leads to the next one.
pub record IsPut {A X : Type 0} (items : List (Item A X)) (place : ℕ) (x : X) (completes : Bool)
    (next : ℕ) : Type 0 where
  pub over : ℕ
  pub stands : slice_get items place ≡ Some (Puts over x)
  pub leads : IsTrue completes → next_place items place ≡ next

-- the same of an instruction
pub record IsKept {A X : Type 0} (items : List (Item A X)) (place : ℕ) (instruction : A)
    (falls : Bool) (next : ℕ) : Type 0 where
  pub over : ℕ
  pub stands : slice_get items place ≡ Some (Keeps over instruction)
  pub leads : IsTrue falls → next_place items place ≡ next

-- where what falls to an index arrives: behind its entries
abbrev pub fall_to : {X H : Type 0} → Marks X H → ℕ → ℕ
fall_to m i = first_of m i + length (m.entries i)

-- Where what stands at an index begins in code that is laid out, by its items with their pieces.
-- The end goes to the end.
abbrev pub new_index : {A X H G : Type 0} → Marks X H → List (Item A (Piece A G)) → ℕ → ℕ
new_index m items i = moved_to items (stand m i)

-- where an entry of the exception table leads
abbrev pub marked_target : {X : Type 0} → Marks X Handler → Handler → ℕ
marked_target m h = entry_target m (m.entry_of h) h.target

-- ---- a method with its marks

-- what is meant by it
abbrev pub marked : Program → Marks Fragment Handler → Reference
marked p m =
    reference_of p.parameters (marked_items operation_codes m p.operations)
    (marked_handlers operation_codes m p.handlers)

-- the program that has the blocks in place
abbrev pub spliced : Program → Marks Fragment Handler → Program
spliced p m =
    laid p.parameters (marked_items operation_codes m p.operations)
    (marked_handlers operation_codes m p.handlers)

-- what is done at an index where a piece may stand in place of the operation
abbrev pub doing_at : Option Fragment → Option Operation → Option Doing
doing_at instead None = None
doing_at None (Some operation) = Some (Performs operation)
doing_at (Some fragment) (Some operation) = Some (Means fragment.meaning)

-- The same reference by the method's own indexes, where nothing is put but in the place of
-- instructions.
abbrev pub replaced : Program → (ℕ → Option Fragment) → Reference
replaced p instead =
    record {
      parameters = p.parameters;
      doing = λ i. doing_at (instead i) (slice_get p.operations i);
      handlers = p.handlers;
      next = λ i. suc i;
      home = λ i. i;
    }

-- A test on frames by the method's own indexes: it holds within the code, and each step of the
-- reference keeps it.
pub record IsKeptBy (ok : ℕ → Frame → Bool) (p : Program) (instead : ℕ → Option Fragment) : Type 0
  where
    pub inside : (i : ℕ) (frame : Frame) → IsTrue (ok i frame) → i < length p.operations
    pub kept : (classes : Classes) (bound left : ℕ) (s t : State) → IsTrue (ok s.place s.frame)
        → take_reference (replaced p instead) classes bound s ≡ Goes left t
        → IsTrue (ok t.place t.frame)
