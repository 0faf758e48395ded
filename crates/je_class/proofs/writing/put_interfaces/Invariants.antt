use Rattle.std.proofs.Common.{◌≡◌, ◌++◌, List, length, take}
use Rattle.je_base.specs.Bytes.{u2}
use Rattle.je_base.specs.Parts.{each}
use Rattle.je_consts.specs.declared.place.Place.{Place}
use Rattle.je_class.specs.FileParts.{spelled, interface_parts}
use Rattle.je_class.proofs.writing.put_interfaces.Given as goal

abbrev pub invariant-loop-index : goal.invariant-loop-index
invariant-loop-index l = (consts : List Place) → l.out.items ≡ l.fn.out.items ++ (u2 (length l.indexes) ++ spelled (each (interface_parts consts) (take l.index-index l.indexes)))
