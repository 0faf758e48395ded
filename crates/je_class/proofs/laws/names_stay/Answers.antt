use Rattle.je_class.proofs.Grown.{names_stay}
use Rattle.je_class.proofs.laws.names_stay.Goals as goal

pub returns : goal.returns
returns c = names_stay
