-- Code laid out: instructions that stay and pieces that are put, in a row, with a jump behind each
-- that does not lead to the next.
use Rattle.std.specs.Prelude.{ℕ, zero, suc, ◌+◌, ◌≤◌, List, [], ◌∷◌, ◌++◌, length, map, filter}
use Rattle.std.specs.Prelude.{Option, Some, None, slice_get, Bool, nat_lt}
use Rattle.std.specs.List.{AllByRecursion}
use Rattle.je_machine.specs.Operation.{Operation, Goto, Handler}
use Rattle.je_machine.specs.IndexMap.{may_fall}
use Rattle.je_machine.specs.Moved.{retargeted}
use Rattle.je_splice.specs.Block.{Piece}

-- What is asked of instructions and exception table entries that are laid out. An instruction that
-- stays has its targets under a map; one of a piece is put at an index, with the piece's length. A
-- jump stands behind a place and leads to an index. An instruction may lead to the next, or not. An
-- entry has its start, its end and its target each under a map, and covers something, or not.
pub record Codes (A H : Type 0) : Type 0 where
  pub keep : (ℕ → ℕ) → A → A
  pub put : ℕ → ℕ → A → A
  pub jump : ℕ → ℕ → A
  pub falls : A → Bool
  pub move : (ℕ → ℕ) → (ℕ → ℕ) → (ℕ → ℕ) → H → H
  pub ranges : H → Bool

abbrev pub moved_entry : (ℕ → ℕ) → (ℕ → ℕ) → (ℕ → ℕ) → Handler → Handler
moved_entry start end target h =
    record {
      start = start h.start;
      end = end h.end;
      target = target h.target;
      catch_class =
          h.catch_class;
    }

abbrev pub has_range : Handler → Bool
has_range h = nat_lt h.start h.end

-- those of the machine
abbrev pub operation_codes : Codes Operation Handler
operation_codes =
    record {
      keep = retargeted;
      put = λ at length. retargeted (λ target. at + target);
      jump = λ place target. Goto target;
      falls = may_fall;
      move = moved_entry;
      ranges = has_range;
    }

-- What stands at a place: an instruction, or a piece. Behind it so many places are passed.
pub data Item (A X : Type 0) : Type 0 where
  Keeps : (over : ℕ) (instruction : A) → Item A X
  Puts : (over : ℕ) (piece : X) → Item A X

abbrev pub over_of : {A X : Type 0} → Item A X → ℕ
over_of (Keeps over instruction) = over
over_of (Puts over piece) = over

-- the place to which an item leads
abbrev pub next_by : {A X : Type 0} → ℕ → Option (Item A X) → ℕ
next_by place None = suc place
next_by place (Some item) = suc place + over_of item

abbrev pub next_place : {A X : Type 0} → List (Item A X) → ℕ → ℕ
next_place items place = next_by place (slice_get items place)

-- a piece's entries cover nothing behind it
abbrev pub Within : {A : Type 0} → Item A (Piece A Handler) → Type 0
Within (Keeps over instruction) = Unit {0}
Within (Puts over piece) = AllByRecursion (λ h. h.end ≤ length piece.code) piece.handlers

-- ---- widths

abbrev pub body_width : {A H : Type 0} → Item A (Piece A H) → ℕ
body_width (Keeps over instruction) = 1
body_width (Puts over piece) = length piece.code

abbrev pub jump_width : ℕ → ℕ
jump_width zero = 0
jump_width (suc over) = 1

abbrev pub width : {A H : Type 0} → Item A (Piece A H) → ℕ
width item = body_width item + jump_width (over_of item)

-- where a place begins: behind all items before it
abbrev pub moved_to : {A H : Type 0} → List (Item A (Piece A H)) → ℕ → ℕ
moved_to items zero = 0
moved_to [] (suc place) = 0
moved_to (item ∷ items) (suc place) = width item + moved_to items place

abbrev pub width_there : {A H : Type 0} → Option (Item A (Piece A H)) → ℕ
width_there None = 0
width_there (Some item) = body_width item

-- Where a range ends: behind the last item, and before the jump behind it. That jump throws
-- nothing, and what is known at it is what is known where it leads.
abbrev pub shut : {A H : Type 0} → List (Item A (Piece A H)) → ℕ → ℕ
shut items zero = 0
shut items (suc last) = moved_to items last + width_there (slice_get items last)

-- ---- code

-- the item's own code: an instruction's targets go where the map sends them, a piece's count from
-- where it stands
abbrev pub body_code : {A H : Type 0} → Codes A H → (ℕ → ℕ) → ℕ → Item A (Piece A H) → List A
body_code codes to at (Keeps over instruction) = codes.keep to instruction ∷ []
body_code codes to at (Puts over piece) = map (codes.put at (length piece.code)) piece.code

abbrev pub jump_code : {A H : Type 0} → Codes A H → ℕ → ℕ → ℕ → List A
jump_code codes place target zero = []
jump_code codes place target (suc over) = codes.jump place target ∷ []

abbrev pub item_code : {A H : Type 0} → Codes A H → (ℕ → ℕ) → ℕ → ℕ → Item A (Piece A H) → List A
item_code codes to place at item =
    body_code codes to at item
    ++ jump_code codes place (to (suc place + over_of item)) (over_of item)

-- the code of the items from a place on, which stands at an index
abbrev pub code_from : {A H : Type 0} → Codes A H → (ℕ → ℕ) → ℕ → ℕ → List (Item A (Piece A H))
    → List A
code_from codes to place at [] = []
code_from codes to place at (item ∷ items) =
    item_code codes to place at item ++ code_from codes to (suc place) (at + width item) items

abbrev pub laid_code : {A H : Type 0} → Codes A H → List (Item A (Piece A H)) → List A
laid_code codes items = code_from codes (moved_to items) 0 0 items

-- ---- entries of the exception table

abbrev pub own_handlers : {A H : Type 0} → Codes A H → ℕ → Item A (Piece A H) → List H
own_handlers codes at (Keeps over instruction) = []
own_handlers codes at (Puts over piece) =
    map (codes.move (λ start. at + start) (λ end. at + end) (λ target. at + target)) piece.handlers

abbrev pub own_from : {A H : Type 0} → Codes A H → ℕ → List (Item A (Piece A H)) → List H
own_from codes at [] = []
own_from codes at (item ∷ items) =
    own_handlers codes at item ++ own_from codes (at + width item) items

-- Those of the pieces come first, in the order of places; then the old ones. One that covers
-- nothing is left out.
abbrev pub laid_handlers : {A H : Type 0} → Codes A H → List (Item A (Piece A H)) → List H → List H
laid_handlers codes items handlers =
    filter codes.ranges
    (own_from codes 0 items
    ++ map (codes.move (moved_to items) (shut items) (moved_to items)) handlers)
