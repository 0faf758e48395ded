-- Code as a class file has it, with pieces, and the operations and blocks that it is over a
-- constant pool (JVMS 4.7.3).
use Rattle.std.specs.Prelude.{◌≡◌, ℕ, suc, ◌≤◌, List, [], length, map, Option, Some, None, Bool}
use Rattle.std.specs.Prelude.{IsTrue}
use Rattle.std.specs.List.{AllByRecursion, AllZip}
use Rattle.je_consts.specs.declared.place.Place.{Place}
use Rattle.je_machine.specs.Value.{Kind, Value}
use Rattle.je_machine.specs.Heap.{Heap}
use Rattle.je_machine.specs.Classes.{Classes}
use Rattle.je_machine.specs.Outside.{Answer}
use Rattle.je_machine.specs.Operation.{Operation, Handler, Program}
use Rattle.je_machine.specs.Frame.{Frame, frame_of}
use Rattle.je_machine.specs.Machine.{enter, run_of}
use Rattle.je_machine.specs.View.{AgreeingRuns}
use Rattle.je_instr.specs.declared.instr.Instr.{Instr}
use Rattle.je_instr.specs.declared.program.Handler as entries
use Rattle.je_instr.specs.CodeProgram.{IsHandlerOf}
use Rattle.je_instr.specs.Resolves.{Resolves}
use Rattle.je_splice.specs.Block.{Piece, Block, Meaning}
use Rattle.je_splice.specs.InstrCodes.{instr_codes}
use Rattle.je_splice.specs.Means.{BlockMeans}
use Rattle.je_splice.specs.Comes.{Does}
use Rattle.je_splice.specs.Reference.{body_of}
use Rattle.je_splice.specs.Layout.{Item, Keeps, Puts, operation_codes}
use Rattle.je_splice.specs.Laid.{Fragment, reference_of, laid, Fits}
use Rattle.je_splice.specs.Mapped.{mapped_item}
use Rattle.je_splice.specs.Marks.{Marks, OnlyInstead, marked_items}
use Rattle.je_splice.specs.Put.{PutAt, PutBefore}

-- an entry of the exception table, with the index of the class that it catches
abbrev pub Entry : Type 0
Entry = entries.Handler

-- instructions and entries whose places count from the first of them
abbrev pub CodePiece : Type 0
CodePiece = Piece Instr Entry

-- ---- what code is

-- The instructions and the entries of the table are those of the program, with what they name in
-- place.
pub record AreProgram (consts : List Place) (code : List Instr) (table : List Entry) (p : Program)
    : Type 0 where
  pub operations : AllZip (Resolves consts) code p.operations
  pub handlers : AllZip (IsHandlerOf consts) table p.handlers

-- so are those of a piece those of a block
pub record IsBlockOf (consts : List Place) (piece : CodePiece) (block : Block) : Type 0 where
  pub code : AllZip (Resolves consts) piece.code block.code
  pub handlers : AllZip (IsHandlerOf consts) piece.handlers block.handlers

-- It is the block of the piece that does what is meant, and its entries cover nothing behind it.
pub record PieceMeans (consts : List Place) (limit : ℕ) (ok : Frame → Bool) (piece : CodePiece)
    (meaning : Classes → Meaning) : Type 0 where
  pub block : Block
  pub is_block : IsBlockOf consts piece block
  pub means : BlockMeans limit ok block meaning
  pub within : AllByRecursion (λ (h : Handler). h.end ≤ length block.code) block.handlers

-- ---- what items are

-- the one is the instruction or the piece that the other does, and leads where it leads
abbrev pub IsItemOf : List Place → Item Instr CodePiece → Item Operation Fragment → Type 0
IsItemOf consts (Keeps over i) (Keeps other operation) =
    (over ≡ other) × Resolves consts i operation
IsItemOf consts (Puts over piece) (Puts other fragment) =
    (over ≡ other) × IsBlockOf consts piece fragment.block
IsItemOf consts _ _ = ⊥

-- What is meant at each place by the items that stand there, and where the entries send throws.
pub record AreMeant (consts : List Place) (items : List (Item Instr CodePiece))
    (table : List Entry) (meant : List (Item Operation Fragment)) (handlers : List Handler)
    : Type 0 where
  pub each : AllZip (IsItemOf consts) items meant
  pub caught : AllZip (IsHandlerOf consts) table handlers

-- ---- what marks are

-- it is the block of the piece, and leads on where that does
abbrev pub IsPutAs : {X Y : Type 0} → List Place → (X → CodePiece) → (Y → Fragment)
    → (X → Bool) → (Y → Bool) → X → Y → Type 0
IsPutAs consts piece_of fragment_of completes goes_on x y =
    IsBlockOf consts (piece_of x) (fragment_of y).block × (completes x ≡ goes_on y)

abbrev pub IsInstead : {X Y : Type 0} → List Place → (X → CodePiece) → (Y → Fragment)
    → (X → Bool) → (Y → Bool) → Option X → Option Y → Type 0
IsInstead consts piece_of fragment_of completes goes_on None None = Unit {0}
IsInstead consts piece_of fragment_of completes goes_on (Some x) (Some y) =
    IsPutAs consts piece_of fragment_of completes goes_on x y
IsInstead consts piece_of fragment_of completes goes_on _ _ = ⊥

-- The pieces of the one are the fragments of the other, index by index. The entries of a table
-- meet what the handlers meet that they are.
pub record AreMarksOf {X Y : Type 0} (consts : List Place) (piece_of : X → CodePiece)
    (fragment_of : Y → Fragment) (m : Marks X Entry) (table : List Entry) (n : Marks Y Handler)
    (handlers : List Handler) : Type 0 where
  pub entries : (i : ℕ) →
      AllZip (IsPutAs consts piece_of fragment_of m.completes n.completes) (m.entries i)
      (n.entries i)
  pub passed : (i : ℕ) →
      AllZip (IsPutAs consts piece_of fragment_of m.completes n.completes) (m.passed i)
      (n.passed i)
  pub met : (i : ℕ) →
      AllZip (IsPutAs consts piece_of fragment_of m.completes n.completes) (m.met i) (n.met i)
  pub instead : (i : ℕ) →
      IsInstead consts piece_of fragment_of m.completes n.completes (m.instead i) (n.instead i)
  pub entry_of : AllZip (λ e h. m.entry_of e ≡ n.entry_of h) table handlers

-- what is put at an index is put there as the other is
pub record IsPlacedAs {X Y : Type 0} (consts : List Place) (piece_of : X → CodePiece)
    (fragment_of : Y → Fragment) (completes : X → Bool) (goes_on : Y → Bool) (a : PutAt X)
    (b : PutAt Y) : Type 0 where
  pub at : a.at ≡ b.at
  pub removed : a.removed ≡ b.removed
  pub jumps : a.jumps ≡ b.jumps
  pub piece : IsPutAs consts piece_of fragment_of completes goes_on a.piece b.piece

-- what is put in the way of entries is in the way of the handlers that they are
pub record IsMetAs {X Y : Type 0} (consts : List Place) (piece_of : X → CodePiece)
    (fragment_of : Y → Fragment) (completes : X → Bool) (goes_on : Y → Bool) (table : List Entry)
    (handlers : List Handler) (a : PutBefore X Entry) (b : PutBefore Y Handler) : Type 0 where
  pub target : a.target ≡ b.target
  pub meets : AllZip (λ e h. a.meets e ≡ b.meets h) table handlers
  pub piece : IsPutAs consts piece_of fragment_of completes goes_on a.piece b.piece

-- the items of code with pieces at its indexes
abbrev pub piece_items : {X : Type 0} → (X → CodePiece) → Marks X Entry → List Instr
    → List (Item Instr CodePiece)
piece_items piece_of m code =
    map (mapped_item (λ i. i) piece_of) (marked_items instr_codes m code)

-- those of operations with fragments at their indexes
abbrev pub fragment_items : {Y : Type 0} → (Y → Fragment) → Marks Y Handler → List Operation
    → List (Item Operation Fragment)
fragment_items fragment_of n operations =
    map (mapped_item (λ operation. operation) fragment_of)
    (marked_items operation_codes n operations)

-- ---- code with its pieces in place

-- The code and its table are the items and their entries laid out: whatever is meant by the items,
-- they are the program that has the blocks in place, and each program that they are does what the
-- reference does, for every relation of classes, and shows what that shows, and no more.
pub record IsWoven (consts : List Place) (items : List (Item Instr CodePiece))
    (table : List Entry) (code : List Instr) (laid_table : List Entry) : Type 0 where
  pub is_program : (parameters : List Kind) (meant : List (Item Operation Fragment))
      (handlers : List Handler) → AreMeant consts items table meant handlers
      → AreProgram consts code laid_table (laid parameters meant handlers)
  pub does : (limit : ℕ) (ok : ℕ → Frame → Bool) (meant : List (Item Operation Fragment))
      (handlers : List Handler) (q : Program) → AreMeant consts items table meant handlers
      → Fits limit ok q.parameters meant handlers → AreProgram consts code laid_table q
      → (classes : Classes) → Does q classes limit (length meant) (suc (length meant))
      (λ locals. ok 0 (frame_of [] locals))
      (body_of (reference_of q.parameters meant handlers) classes)
  pub agrees : (limit : ℕ) (ok : ℕ → Frame → Bool) (meant : List (Item Operation Fragment))
      (handlers : List Handler) (q : Program) → AreMeant consts items table meant handlers
      → Fits limit ok q.parameters meant handlers → AreProgram consts code laid_table q
      → (classes : Classes) (arguments : List Value) (heap : Heap) (answers : List Answer)
      → IsTrue (ok 0 (frame_of [] (enter q.parameters arguments))) → AgreeingRuns
      (λ n. body_of (reference_of q.parameters meant handlers) classes n
      (enter q.parameters arguments)
      (record { heap = heap; events = []; answers = answers }))
      (run_of q classes arguments heap answers)

-- ---- a method's code of which some instructions give way

-- The code is that of the program, and in the place of its instructions alone the one has pieces
-- where the other has fragments.
pub record GivesWay {X Y : Type 0} (consts : List Place) (piece_of : X → CodePiece)
    (fragment_of : Y → Fragment) (m : Marks X Entry) (code : List Instr) (table : List Entry)
    (n : Marks Y Handler) (p : Program) : Type 0 where
  pub program : AreProgram consts code table p
  pub marks : AreMarksOf consts piece_of fragment_of m table n p.handlers
  pub only : OnlyInstead n
  pub no_entry : (h : Handler) → n.entry_of h ≡ None
