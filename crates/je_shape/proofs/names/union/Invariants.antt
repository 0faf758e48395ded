use Rattle.std.proofs.Common.{take}
use Rattle.je_shape.specs.Canonical.{IsCanonicalNames}
use Rattle.je_shape.specs.Joined.{IsUnion}
use Rattle.je_shape.proofs.names.union.Given as goal

abbrev pub invariant-loop-name : goal.invariant-loop-name
invariant-loop-name l = IsUnion l.a (take l.name-index l.b) l.all.items × IsCanonicalNames l.all.items
