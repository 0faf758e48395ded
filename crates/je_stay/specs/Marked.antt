-- Shapes at the places of a method with marks, and pieces that keep to them (JVMS 4.10.1).
use Rattle.std.specs.Prelude.{◌≡◌, ℕ, zero, suc, ◌<◌, ◌≤◌, length, Some, None}
use Rattle.std.specs.Prelude.{IfSome, Bool, true, false, nat_lt, if◌then◌else◌, slice_get}
use Rattle.std.specs.List.{AllByRecursion}
use Rattle.je_machine.specs.Classes.{Classes}
use Rattle.je_machine.specs.Operation.{Operation, Handler}
use Rattle.je_machine.specs.Machine.{Outer, catcher}
use Rattle.je_machine.specs.Slots.{UsesBelow}
use Rattle.je_shape.specs.Shape.{Known, Nothing}
use Rattle.je_shape.specs.Least.{Method, Assignment}
use Rattle.je_fit.specs.Fits.{fits_known}
use Rattle.je_splice.specs.Reference.{Doing, Performs, Means}
use Rattle.je_stay.specs.Keeping.{DoingKeeps}
use Rattle.je_splice.specs.Means.{BlockMeans}
use Rattle.je_splice.specs.Laid.{Fragment}
use Rattle.je_splice.specs.Marks.{Marks, first_of}

-- ---- what is known of places

-- Of a place is known what is known of its index: of the first, from one on, of which the places
-- end behind it. There are so many indexes.
abbrev pub known_from : {X H : Type 0} → Marks X H → Assignment → ℕ → ℕ → Assignment
known_from marks x i zero place = Nothing
known_from marks x i (suc count) place =
    if nat_lt place (first_of marks (suc i)) then x i
    else known_from marks x (suc i) count place

-- all places of a method, of so many instructions
abbrev pub known_at : {X H : Type 0} → Marks X H → Assignment → ℕ → Assignment
known_at marks x count place = known_from marks x 0 count place

-- ---- pieces that keep to shapes

-- where throws of an index go
abbrev pub thrown_from : Method → ℕ → Classes → Outer
thrown_from m at classes = catcher m.program.handlers classes at

-- what is done at an index, and leads to what this is known of
abbrev pub KeepsAt : Method → Assignment → ℕ → Known → Doing → Type 0
KeepsAt m x at next doing = DoingKeeps m.result x (x at) next (thrown_from m at) doing

-- what may not lead on leads to nothing
abbrev pub if_leads : Bool → Known → Known
if_leads true next = next
if_leads false next = Nothing

-- the index is of the instruction, and nothing stands in its place
pub record StaysAt {X H : Type 0} (m : Method) (marks : Marks X H) (at : ℕ) (operation : Operation)
    : Type 0 where
  pub stands : slice_get m.program.operations at ≡ Some operation
  pub alone : marks.instead at ≡ None

-- an entry of the exception table that meets a piece meets one that is there
abbrev pub MeetsPiece : {X : Type 0} → Marks X Handler → Handler → Type 0
MeetsPiece marks h = IfSome (marks.entry_of h) (λ k. k < length (marks.entries h.target))

-- Each piece keeps to the shapes of the indexes. What is in the way of handlers begins with the
-- shape of their target, and so goes on; so does what stands before an instruction. What is in the
-- place of one goes on with the shape of the next index.
pub record PiecesKeep (m : Method) (x : Assignment) (marks : Marks Fragment Handler) : Type 0 where
  pub entries : (at k : ℕ) (piece : Fragment) → slice_get (marks.entries at) k ≡ Some piece
      → KeepsAt m x at (if_leads (marks.completes piece) (x at)) (Means piece.meaning)
  pub passed : (at k : ℕ) (piece : Fragment) → slice_get (marks.passed at) k ≡ Some piece
      → KeepsAt m x at (x at) (Means piece.meaning)
  pub met : (at k : ℕ) (piece : Fragment) → slice_get (marks.met at) k ≡ Some piece
      → KeepsAt m x at (x at) (Means piece.meaning)
  pub instead : (at : ℕ) (piece : Fragment) → marks.instead at ≡ Some piece
      → KeepsAt m x at (if_leads (marks.completes piece) (x (suc at))) (Means piece.meaning)
  pub meets : AllByRecursion (MeetsPiece marks) m.program.handlers

-- So does each instruction that stays. Behind the code nothing is known.
pub record KeepsMarked (m : Method) (x : Assignment) (marks : Marks Fragment Handler) : Type 0 where
  pub pieces : PiecesKeep m x marks
  pub stays : (at : ℕ) (operation : Operation) → StaysAt m marks at operation
      → KeepsAt m x at (x (suc at)) (Performs operation)
  pub behind : (at : ℕ) → length m.program.operations ≤ at → x at ≡ Nothing

-- ---- pieces whose blocks do what is meant

-- with each frame that fits; its entries cover nothing behind it
pub record FitsPiece (limit : ℕ) (known : Known) (piece : Fragment) : Type 0 where
  pub means : BlockMeans limit (fits_known known) piece.block piece.meaning
  pub within : AllByRecursion (λ (h : Handler). h.end ≤ length piece.block.code)
      piece.block.handlers

-- Each piece does, and no instruction that stays uses a local variable from the limit on.
pub record FitsMarked (limit : ℕ) (m : Method) (x : Assignment) (marks : Marks Fragment Handler)
    : Type 0 where
  pub entries : (at k : ℕ) (piece : Fragment) → slice_get (marks.entries at) k ≡ Some piece
      → FitsPiece limit (x at) piece
  pub passed : (at k : ℕ) (piece : Fragment) → slice_get (marks.passed at) k ≡ Some piece
      → FitsPiece limit (x at) piece
  pub met : (at k : ℕ) (piece : Fragment) → slice_get (marks.met at) k ≡ Some piece
      → FitsPiece limit (x at) piece
  pub instead : (at : ℕ) (piece : Fragment) → marks.instead at ≡ Some piece
      → FitsPiece limit (x at) piece
  pub stays : (at : ℕ) (operation : Operation) → StaysAt m marks at operation
      → UsesBelow limit operation
