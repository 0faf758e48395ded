use Rattle.je_splice.specs.Laid.{blocks_of}
use Rattle.je_stay.proofs.InnerLemmas.{laid_keeps, start_fits}
use Rattle.je_stay.proofs.ProgramLemmas.{items_laid}
use Rattle.je_stay.proofs.inner.laid_code_keeps.Goals as goal

pub returns-clause-items : goal.returns-clause-items
returns-clause-items c = λ kind x inner parameters items handlers shaped blocks. items_laid kind x inner parameters items handlers shaped blocks

pub returns-clause-keeps : goal.returns-clause-keeps
returns-clause-keeps c = λ kind x inner parameters items handlers keeps. laid_keeps kind x inner (blocks_of items) handlers keeps parameters

pub returns-clause-begins : goal.returns-clause-begins
returns-clause-begins c = λ kind x inner items handlers place frame keeps fit. start_fits kind x inner (blocks_of items) handlers keeps place frame fit
