use Rattle.std.proofs.Common.{ℕ, ◌<◌, get_or}
use Rattle.je_session.specs.Tokens.{IsWhite}
use Rattle.je_session.proofs.script.tokens.white_len.Given as goal

abbrev pub invariant-loop-i : goal.invariant-loop-i
invariant-loop-i l = (k : ℕ) → k < l.i → IsWhite (get_or l.text k 0)
