use Rattle.je_keep.proofs.FormedLemmas.{resolved_formed}
use Rattle.je_keep.proofs.formed.programs_are_well_formed.Goals as goal

pub returns : goal.returns
returns c = λ consts code p pool program operations handlers. resolved_formed consts code p program operations pool handlers
