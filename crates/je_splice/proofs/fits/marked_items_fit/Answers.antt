use Rattle.je_splice.specs.Laid.{FitsAnywhere}
use Rattle.je_splice.proofs.FitLemmas.{items_fit, lists_put, some_limit}
use Rattle.je_splice.proofs.fits.marked_items_fit.Goals as goal

pub returns-clause-each : goal.returns-clause-each
returns-clause-each i c = λ fragment_of limit ok n operations uses puts place item there. items_fit fragment_of limit n puts ok operations uses place item there

pub returns-clause-lists : goal.returns-clause-lists
returns-clause-lists i c = λ fragment_of limit target_of goes_on places entries h k. lists_put (λ y. FitsAnywhere limit (fragment_of y)) target_of goes_on places entries h k

pub returns-clause-limit : goal.returns-clause-limit
returns-clause-limit i c = some_limit
