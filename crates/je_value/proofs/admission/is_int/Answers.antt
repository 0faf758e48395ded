use Rattle.std.specs.Int.{w32}
use Rattle.je_value.proofs.AdmissionLemmas.{is_within}
use Rattle.je_value.proofs.admission.is_int.Goals as goal

pub returns : goal.returns
returns c = is_within w32 c.args.n c.ranges.n
