use Rattle.std.proofs.Common.{length}
use Rattle.je_flow.proofs.stack.+top_places.Given as goal

abbrev pub decreases-top_places : goal.decreases-top_places
decreases-top_places l = length l.stack.now
