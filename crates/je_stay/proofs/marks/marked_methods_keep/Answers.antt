use Rattle.je_stay.proofs.PlaceLemmas.{known_is}
use Rattle.je_stay.proofs.MarkedLemmas.{begins_there, marked_shaped}
use Rattle.je_stay.proofs.SplicedLemmas.{marked_fits}
use Rattle.je_stay.proofs.marks.marked_methods_keep.Goals as goal

pub returns-clause-places : goal.returns-clause-places
returns-clause-places c = λ x marks count at place inside low high. known_is marks x count at place inside low high

pub returns-clause-shaped : goal.returns-clause-shaped
returns-clause-shaped c = λ m x marks keeps. marked_shaped m x marks keeps

pub returns-clause-begins : goal.returns-clause-begins
returns-clause-begins c = λ m x marks frame keeps fit. begins_there m x marks keeps frame fit

pub returns-clause-fits : goal.returns-clause-fits
returns-clause-fits c = λ limit m x marks keeps fits. marked_fits m x marks keeps limit fits
