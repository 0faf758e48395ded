use Rattle.std.proofs.Common.{◌≡◌}
use Rattle.je_tokens.specs.Places.{pos_after}
use Rattle.je_tokens.proofs.places.text_end.Given as goal

abbrev pub invariant-loop-c : goal.invariant-loop-c
invariant-loop-c l = l.pos ≡ pos_after l.yielded
