use Rattle.std.proofs.Common.{length}
use Rattle.je_flow.proofs.stack.+under_places.Given as goal

abbrev pub decreases-under_places : goal.decreases-under_places
decreases-under_places l = length l.stack.now
