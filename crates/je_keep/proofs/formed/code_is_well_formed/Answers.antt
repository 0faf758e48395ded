use Rattle.je_keep.proofs.FormedLemmas.{program_formed, program_within}
use Rattle.je_keep.proofs.formed.code_is_well_formed.Goals as goal

pub returns-clause-formed : goal.returns-clause-formed
returns-clause-formed c = λ consts is_static text code table p pool is. program_formed c.decoded_again.ensures.program consts is_static text code table p pool is

pub returns-clause-targets : goal.returns-clause-targets
returns-clause-targets c = λ consts is_static text code table p is. program_within c.decoded_again.ensures.program consts is_static text code table p is
