use Rattle.std.proofs.Common.{◌≡◌, take}
use Rattle.je_tokens.specs.Characters.{text_of_units}
use Rattle.je_tokens.proofs.characters.text_of_units.Given as goal

abbrev pub invariant-loop-code : goal.invariant-loop-code
invariant-loop-code l = l.bytes.items ≡ text_of_units (take l.code-index l.units)
