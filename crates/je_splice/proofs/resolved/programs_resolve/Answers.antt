use Rattle.je_splice.proofs.ResolvedLemmas.{program_resolves}
use Rattle.je_splice.proofs.resolved.programs_resolve.Goals as goal

pub returns : goal.returns
returns c = program_resolves
