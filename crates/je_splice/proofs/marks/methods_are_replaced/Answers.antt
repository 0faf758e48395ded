use Rattle.je_splice.proofs.ReplacedLemmas.{marked_is}
use Rattle.je_splice.proofs.marks.methods_are_replaced.Goals as goal

pub returns : goal.returns
returns i c = λ fragment_of p m only none. marked_is fragment_of m only none p
