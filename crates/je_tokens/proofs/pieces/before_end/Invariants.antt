use Rattle.std.proofs.Common.{◌≡◌, ◌+◌, length}
use Rattle.std.specs.Option.{option_map}
use Rattle.je_tokens.specs.Pieces.{before_end}
use Rattle.je_tokens.proofs.pieces.before_end.Given as goal

abbrev pub invariant-loop-behind : goal.invariant-loop-behind
invariant-loop-behind l = record {
  whole : before_end l.text ≡ option_map (λ k. k + l.before) (before_end l.rest);
  count : l.before + length l.rest ≡ length l.text;
}

abbrev pub decreases-loop-behind : goal.decreases-loop-behind
decreases-loop-behind l = length l.rest
