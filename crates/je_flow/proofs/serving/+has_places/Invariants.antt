use Rattle.std.proofs.Common.{length}
use Rattle.je_flow.proofs.serving.+has_places.Given as goal

abbrev pub decreases-has_places : goal.decreases-has_places
decreases-has_places l = length l.stack.now
