use Rattle.je_splice.proofs.ComesLemmas.{does_agree}
use Rattle.je_splice.proofs.runs.does_agree.Goals as goal

pub returns : goal.returns
returns c = does_agree
