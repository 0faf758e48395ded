use Rattle.std.specs.Int.{w64}
use Rattle.je_value.proofs.AdmissionLemmas.{is_within}
use Rattle.je_value.proofs.admission.is_long.Goals as goal

pub returns : goal.returns
returns c = is_within w64 c.args.n c.ranges.n
