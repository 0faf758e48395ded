use Rattle.je_fit.proofs.SoundLemmas.{least_sound}
use Rattle.je_fit.proofs.steps.least_shapes_are_sound.Goals as goal

pub returns : goal.returns
returns c = record { sound = least_sound }
