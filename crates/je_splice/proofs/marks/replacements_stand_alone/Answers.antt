use Rattle.je_splice.proofs.ReplacedLemmas.{stand_instead}
use Rattle.je_splice.proofs.marks.replacements_stand_alone.Goals as goal

pub returns : goal.returns
returns i c = λ target_of completes places h. stand_instead target_of completes places h
