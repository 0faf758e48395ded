use Rattle.std.proofs.Common.{◌≡◌, ◌++◌, List, length, take}
use Rattle.je_base.specs.Bytes.{u2}
use Rattle.je_base.specs.Parts.{each}
use Rattle.je_consts.specs.declared.place.Place.{Place}
use Rattle.je_class.specs.FileParts.{spelled, attribute_parts}
use Rattle.je_class.proofs.writing.put_attributes.Given as goal

abbrev pub invariant-loop-attribute : goal.invariant-loop-attribute
invariant-loop-attribute l = (consts : List Place) → l.out.items ≡ l.fn.out.items ++ (u2 (length l.attributes) ++ spelled (each (attribute_parts consts) (take l.attribute-index l.attributes)))
