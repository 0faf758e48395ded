use Rattle.je_splice.proofs.MarksLemmas.{marked_catcher}
use Rattle.je_splice.proofs.marks.throws_are_placed.Goals as goal

pub returns : goal.returns
returns g c = λ m classes heap v hs i n low high. marked_catcher m classes heap v hs i n low high
