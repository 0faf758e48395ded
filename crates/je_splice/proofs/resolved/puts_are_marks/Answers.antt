use Rattle.je_splice.proofs.PutLemmas.{marks_put}
use Rattle.je_splice.proofs.resolved.puts_are_marks.Goals as goal

pub returns : goal.returns
returns i c = λ consts piece_of fragment_of completes goes_on table handlers places fragments entries others is placed met.
    marks_put consts piece_of fragment_of completes goes_on table handlers is places fragments placed entries others met
