use Rattle.je_splice.proofs.ReplacedFitLemmas.{replaced_fits}
use Rattle.je_splice.proofs.fits.replaced_methods_fit.Goals as goal

pub returns : goal.returns
returns i c = λ fragment_of limit ok n p only none uses puts kept. replaced_fits fragment_of limit ok n p only none uses puts kept
