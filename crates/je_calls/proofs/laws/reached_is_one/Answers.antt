use Rattle.je_calls.proofs.ReachLemmas.{reached_alike}
use Rattle.je_calls.proofs.laws.reached_is_one.Goals as goal

pub returns : goal.returns
returns c = λ m x y first second at.
    reached_alike (x at) (y at) (c.one_least.ensures.below m x y first.least second.least at) (c.one_least.ensures.below m y x second.least first.least at)
