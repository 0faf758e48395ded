use Rattle.std.proofs.Common.{◌≡◌, ◌+◌, length, false}
use Rattle.std.specs.Option.{option_map}
use Rattle.je_tokens.specs.Literals.{closing}
use Rattle.je_tokens.proofs.literals.closing.Given as goal

abbrev pub invariant-loop-c : goal.invariant-loop-c
invariant-loop-c l = record {
  whole : closing l.mark l.text false ≡ option_map (λ k. k + l.before) (closing l.mark l.rest l.escaped);
  count : l.before + length l.rest ≡ length l.text;
}

abbrev pub decreases-loop-c : goal.decreases-loop-c
decreases-loop-c l = length l.rest
