use Rattle.std.proofs.Common.{◌≤◌, sym, subst}
use Rattle.je_splice.specs.Marks.{stand, new_index}
use Rattle.je_splice.proofs.LayoutLemmas.{rises, ends_within, laid_length}
use Rattle.je_splice.proofs.MarksLemmas.{stand_rises}
use Rattle.je_splice.proofs.marks.indexes_rise.Goals as goal

pub returns-clause-rises : goal.returns-clause-rises
returns-clause-rises g c = λ m items i j h. rises items (stand m i) (stand m j) (stand_rises m i j h)

pub returns-clause-within : goal.returns-clause-within
returns-clause-within g c = λ m codes items i.
    subst (λ n. new_index m items i ≤ n) (sym (laid_length codes items)) (ends_within items (stand m i))
