use Rattle.std.proofs.Common.{◌≡◌, ◌+◌, ◌^◌, ◌<◌, ◌++◌, length}
use Rattle.std.specs.Str.{chars}
use Rattle.je_tokens.specs.Cutting.{tokens_left}
use Rattle.je_tokens.specs.Places.{byte_count}
use Rattle.je_tokens.specs.Tokens.{in_ok, tokens_of}
use Rattle.je_tokens.proofs.cut.tokens.Given as goal

abbrev pub invariant-loop-rest : goal.invariant-loop-rest
invariant-loop-rest l = record {
  whole : tokens_of (chars l.text) ≡ in_ok (λ more. l.found.items ++ more) (tokens_left l.rest);
  fits : l.rest.place.offset + byte_count l.rest.text.now < 2 ^ 64;
}

abbrev pub decreases-loop-rest : goal.decreases-loop-rest
decreases-loop-rest l = length l.rest.text.now
