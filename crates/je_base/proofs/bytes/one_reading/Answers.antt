use Rattle.je_base.proofs.BytesLemmas.{one_reading}
use Rattle.je_base.proofs.bytes.one_reading.Goals as goal

pub returns : goal.returns
returns c = one_reading
