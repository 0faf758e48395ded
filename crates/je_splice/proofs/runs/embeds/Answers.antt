use Rattle.je_splice.proofs.EmbedsLemmas.{embeds_does}
use Rattle.je_splice.proofs.runs.embeds.Goals as goal

pub returns : goal.returns
returns c = embeds_does
