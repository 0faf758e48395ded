use Rattle.std.specs.Int.{w64}
use Rattle.std.proofs.lemmas.Int.{to_z-of_z}
use Rattle.je_value.proofs.AdmissionLemmas.{is_within}
use Rattle.je_value.proofs.admission.entered_long.Goals as goal

pub returns : goal.returns
returns c = rw (← is_within w64 c.args.n c.ranges.n) (to_z-of_z w64 c.args.n c.ranges.n)
