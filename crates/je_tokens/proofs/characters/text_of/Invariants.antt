use Rattle.std.proofs.Common.{◌≡◌, take}
use Rattle.std.specs.List.{flat_map}
use Rattle.je_base.specs.Encoding.{char_units}
use Rattle.je_tokens.proofs.characters.text_of.Given as goal

abbrev pub invariant-loop-c : goal.invariant-loop-c
invariant-loop-c l = l.units.items ≡ flat_map char_units (take l.c-index l.characters)
