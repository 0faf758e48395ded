use Rattle.std.proofs.Common.{List, subst}
use Rattle.je_machine.specs.Operation as machine
use Rattle.je_instr.specs.declared.instr.Instr.{Instr}
use Rattle.je_splice.specs.InstrCodes.{instr_codes}
use Rattle.je_splice.specs.Layout.{Item, operation_codes}
use Rattle.je_splice.specs.Marks.{marked_handlers}
use Rattle.je_splice.specs.Put.{marks_of}
use Rattle.je_splice.specs.Resolved.{CodePiece, AreMeant, fragment_items}
use Rattle.je_put.specs.Placing.{piece_of, completes, block_marks}
use Rattle.je_put.specs.Result.{put_items}
use Rattle.je_put.proofs.MeantLemmas.{same_pieces}
use Rattle.je_put.proofs.meant.put_programs_are_meant.Goals as goal

pub returns : goal.returns
returns i c = λ consts fragment_of goes_on p old places entries fragments others is placed met.
    let n = marks_of (λ (h : machine.Handler). h.target) goes_on fragments others in
    subst
    (λ (items : List (Item Instr CodePiece)). AreMeant consts items (marked_handlers instr_codes (block_marks places entries) p.handlers) (fragment_items fragment_of n old.operations)
    (marked_handlers operation_codes n old.handlers)) (same_pieces (put_items p places entries))
    (c.marks_are_meant.ensures.meant consts piece_of fragment_of (block_marks places entries) n p.instrs p.handlers old is
    (c.puts_are_marks.ensures consts piece_of fragment_of completes goes_on p.handlers old.handlers _ fragments _ others is.handlers placed met))
