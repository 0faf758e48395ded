use Rattle.je_splice.proofs.InsideLemmas.{stays_inside}
use Rattle.je_splice.proofs.blocks.places_are_kept.Goals as goal

pub returns : goal.returns
returns c = stays_inside
