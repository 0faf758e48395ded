use Rattle.std.proofs.Common.{refl}
use Rattle.je_machine.proofs.runs.views_show.Goals as goal

pub returns-clause-going : goal.returns-clause-going
returns-clause-going c = λ left locals o. refl

pub returns-clause-ended : goal.returns-clause-ended
returns-clause-ended c = λ ending left locals o. refl

pub returns-clause-events : goal.returns-clause-events
returns-clause-events c = λ v w p. p.begins

pub returns-clause-stays : goal.returns-clause-stays
returns-clause-stays c = λ v w p e. p.final e

pub returns-clause-alike : goal.returns-clause-alike
returns-clause-alike c = λ old new a n e. let s = a.shows n in (s.0, s.1.final e)

pub returns-clause-no_more : goal.returns-clause-no_more
returns-clause-no_more c = λ old new a n e. let s = a.shows_only n in (s.0, s.1.final e)

pub returns-clause-shown : goal.returns-clause-shown
returns-clause-shown c = λ old new a n. let s = a.shows n in (s.0, s.1.begins)

pub returns-clause-shown_back : goal.returns-clause-shown_back
returns-clause-shown_back c = λ old new a n. let s = a.shows_only n in (s.0, s.1.begins)
