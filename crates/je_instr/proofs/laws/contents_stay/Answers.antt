use Rattle.je_instr.proofs.GrownLemmas.{content_stays, allowed_still, resolves_still}
use Rattle.je_instr.proofs.GrownLemmas.{all_resolve_still}
use Rattle.je_instr.proofs.GrownLemmas.{decodes_still, program_still}
use Rattle.je_instr.proofs.laws.contents_stay.Goals as goal

pub returns-clause-content : goal.returns-clause-content
returns-clause-content c = content_stays

pub returns-clause-allowed : goal.returns-clause-allowed
returns-clause-allowed c = allowed_still

pub returns-clause-resolves : goal.returns-clause-resolves
returns-clause-resolves c = resolves_still

pub returns-clause-operations : goal.returns-clause-operations
returns-clause-operations c = all_resolve_still

pub returns-clause-decodes : goal.returns-clause-decodes
returns-clause-decodes c = decodes_still

pub returns-clause-program : goal.returns-clause-program
returns-clause-program c = program_still
