use Rattle.std.proofs.Common.{◌≡◌, ◌++◌, take}
use Rattle.std.specs.List.{flat_map}
use Rattle.je_base.specs.Encoding.{unit}
use Rattle.je_base.proofs.encoding.push_char.Given as goal

abbrev pub invariant-loop-code : goal.invariant-loop-code
invariant-loop-code l = l.bytes.items ≡ l.fn.bytes.items ++ flat_map unit (take l.code-index l.code-items)
