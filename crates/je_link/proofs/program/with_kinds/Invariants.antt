use Rattle.std.proofs.Common.{◌≡◌, ◌++◌, map, take}
use Rattle.je_machine.specs.Value.{kind_of}
use Rattle.je_link.proofs.program.with_kinds.Given as goal

abbrev pub invariant-loop-of : goal.invariant-loop-of
invariant-loop-of l = l.all ≡ l.fn.kinds ++ map kind_of (take l.of-index l.types)
