use Rattle.je_splice.proofs.ResolvedLemmas.{woven}
use Rattle.je_splice.proofs.resolved.code_is_woven.Goals as goal

pub returns : goal.returns
returns c = woven
