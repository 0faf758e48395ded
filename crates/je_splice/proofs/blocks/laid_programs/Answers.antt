use Rattle.je_splice.proofs.LaidLemmas.{laid_embeds, laid_does}
use Rattle.je_splice.proofs.blocks.laid_programs.Goals as goal

pub returns-clause-embeds : goal.returns-clause-embeds
returns-clause-embeds c = laid_embeds

pub returns-clause-does : goal.returns-clause-does
returns-clause-does c = laid_does
