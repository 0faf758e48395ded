use Rattle.std.proofs.Common.{length}
use Rattle.je_session.specs.Tokens.{IsWhite}
use Rattle.je_session.specs.Reading.{Ends, Leads}
use Rattle.je_session.proofs.script.tokens.tokens.Given as goal

abbrev pub invariant-loop-rest : goal.invariant-loop-rest
invariant-loop-rest l = record { leads : Leads l.text l.found.items l.rest; no_white : Ends IsWhite l.rest }

abbrev pub decreases-loop-rest : goal.decreases-loop-rest
decreases-loop-rest l = length l.rest
