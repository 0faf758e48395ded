use Rattle.std.proofs.Common.{◌≡◌, map, take}
use Rattle.je_builtin.specs.Rows.{text_of}
use Rattle.je_builtin.proofs.made.texts.Given as goal

abbrev pub invariant-loop-string : goal.invariant-loop-string
invariant-loop-string l =
    l.texts.items ≡ map (λ string. text_of string.now) (take l.string-index l.strings)
