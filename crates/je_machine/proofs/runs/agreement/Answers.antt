use Rattle.je_machine.proofs.RunLemmas.{agrees}
use Rattle.je_machine.proofs.runs.agreement.Goals as goal

pub returns : goal.returns
returns g c = λ step steady s old lag follows. agrees step steady s old lag follows
