-- The method with a loop and two handlers as code has it, with its pieces, over a small pool.
use Rattle.std.specs.Prelude.{ℕ, negsuc, List, [], ◌∷◌, None, true, false, codes}
use Rattle.je_consts.specs.declared.constant.Const.TheVariants.{Utf8, Class, NameAndType, Method}
use Rattle.je_consts.specs.declared.place.Place.{Place}
use Rattle.je_consts.specs.declared.place.Place.TheVariants as place
use Rattle.je_machine.specs.Value.{IntKind}
use Rattle.je_machine.specs.Condition.{Zero, Equals}
use Rattle.je_machine.specs.Operation.{Drop, Act, Do, Load, Increment, Return, Handler, Program}
use Rattle.je_machine.specs.Operation as machine
use Rattle.je_machine.specs.Sample.{entry}
use Rattle.je_instr.specs.declared.instr.Instr.{Instr}
use Rattle.je_instr.specs.declared.instr.Instr.TheVariants.{Simple, Local, Iinc, Branch, Goto}
use Rattle.je_instr.specs.declared.instr.Instr.TheVariants.{Invoke}
use Rattle.je_instr.specs.declared.opcodes.TheConstants as op
use Rattle.je_splice.specs.Instead.{no_piece, one_piece, emptied, proceeded}
use Rattle.je_splice.specs.Laid.{Fragment}
use Rattle.je_splice.specs.Layout.{Item}
use Rattle.je_splice.specs.Loop.{call, put_at, put_before}
use Rattle.je_splice.specs.Marks.{Marks}
use Rattle.je_splice.specs.Put.{PutAt, PutBefore, marks_of}
use Rattle.je_splice.specs.Resolved.{Entry, CodePiece, piece_items}

-- the method `C.n` of descriptor `()V` is at index 6
abbrev pub loop_pool : List Place
loop_pool =
    place.Entry (Utf8 (codes "C")) ∷ place.Entry (Class 1) ∷ place.Entry (Utf8 (codes "n"))
    ∷ place.Entry (Utf8 (codes "()V")) ∷ place.Entry (NameAndType 3 4)
    ∷ place.Entry (Method 2 5) ∷ []

abbrev pub call_instr : Instr
call_instr = Invoke op.INVOKESTATIC 6

abbrev pub loop_code : List Instr
loop_code =
    Local op.ILOAD 0 ∷ Branch op.IFEQ 6 ∷ call_instr ∷ call_instr ∷ Iinc 0 (negsuc 0) ∷ Goto 0
    ∷ Simple op.RETURN ∷ Simple op.POP ∷ Simple op.RETURN ∷ []

abbrev pub entry_row : ℕ → ℕ → ℕ → Entry
entry_row start end target =
    record { start = start; end = end; target = target; catch_const = 0 }

abbrev pub loop_table : List Entry
loop_table = entry_row 2 5 7 ∷ entry_row 0 2 4 ∷ []

-- the pieces of `loop_places` and `loop_entries`
abbrev pub loop_pieces : List (PutAt CodePiece)
loop_pieces =
    put_at 0 false true (one_piece (Simple op.NOP)) ∷ put_at 2 true true (one_piece call_instr)
    ∷ put_at 3 true true no_piece ∷ put_at 4 false false (one_piece (Simple op.NOP)) ∷ []

abbrev pub entry_pieces : List (PutBefore CodePiece Entry)
entry_pieces = put_before 4 (one_piece (Simple op.POP)) ∷ []

abbrev pub piece_marks : Marks CodePiece Entry
piece_marks = marks_of (λ e. e.target) (λ piece. true) loop_pieces entry_pieces

-- the instructions and the pieces in a row
abbrev pub loop_items : List (Item Instr CodePiece)
loop_items = piece_items (λ piece. piece) piece_marks loop_code

-- with its pieces in place
abbrev pub spliced_code : List Instr
spliced_code =
    Simple op.NOP ∷ Local op.ILOAD 0 ∷ Branch op.IFEQ 10 ∷ call_instr ∷ Goto 7 ∷ Simple op.POP
    ∷ Goto 8 ∷ Simple op.NOP ∷ Iinc 0 (negsuc 0) ∷ Goto 0 ∷ Simple op.RETURN ∷ Simple op.POP
    ∷ Simple op.RETURN ∷ []

abbrev pub spliced_table : List Entry
spliced_table = entry_row 3 9 11 ∷ entry_row 0 3 5 ∷ []

-- ---- calls that give way: the first to itself, the second to nothing

abbrev pub call_places : List (PutAt Fragment)
call_places =
    put_at 2 true true (proceeded call) ∷ put_at 3 true true (emptied call) ∷ []

abbrev pub call_marks : Marks Fragment Handler
call_marks = marks_of (λ h. h.target) (λ fragment. true) call_places []

abbrev pub call_pieces : List (PutAt CodePiece)
call_pieces = put_at 2 true true (one_piece call_instr) ∷ put_at 3 true true no_piece ∷ []

abbrev pub call_piece_marks : Marks CodePiece Entry
call_piece_marks = marks_of (λ e. e.target) (λ piece. true) call_pieces []

abbrev pub replaced_code : List Instr
replaced_code =
    Local op.ILOAD 0 ∷ Branch op.IFEQ 5 ∷ call_instr ∷ Iinc 0 (negsuc 0) ∷ Goto 0
    ∷ Simple op.RETURN ∷ Simple op.POP ∷ Simple op.RETURN ∷ []

abbrev pub replaced_table : List Entry
replaced_table = entry_row 2 4 6 ∷ entry_row 0 2 3 ∷ []

-- its program
abbrev pub replaced_loop : Program
replaced_loop = record {
  parameters = IntKind ∷ [];
  operations = Load IntKind 0 ∷ machine.Branch (Zero Equals) 5 ∷ Do (Act call)
      ∷ Increment 0 (negsuc 0) ∷ machine.Goto 0 ∷ Return None ∷ Do (Drop 1) ∷ Return None ∷ [];
  handlers = entry 2 4 6 ∷ entry 0 2 3 ∷ [];
}
