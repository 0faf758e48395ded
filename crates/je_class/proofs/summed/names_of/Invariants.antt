use Rattle.std.proofs.Common.{take}
use Rattle.std.specs.List.{AllZip}
use Rattle.je_class.specs.Summed.{IsNameAt}
use Rattle.je_class.proofs.summed.names_of.Given as goal

abbrev pub invariant-loop-index : goal.invariant-loop-index
invariant-loop-index l = AllZip (IsNameAt l.consts) (take l.index-index l.indexes) l.names.items
