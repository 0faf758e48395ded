use Rattle.std.proofs.Common.{◌≡◌, take}
use Rattle.je_tokens.specs.Numbers.{number}
use Rattle.je_tokens.proofs.numbers.number.Given as goal

abbrev pub invariant-loop-digit : goal.invariant-loop-digit
invariant-loop-digit l = l.value ≡ number l.base (take l.digit-index l.digits)
