use Rattle.std.proofs.Common.{length}
use Rattle.std.specs.Prelude.{◌↔◌}
use Rattle.je_shape.specs.Slot.{HasNames}
use Rattle.je_least.proofs.below.has_names.Given as goal

abbrev pub invariant-loop-name : goal.invariant-loop-name
invariant-loop-name l = HasNames l.rest l.many ↔ HasNames l.few l.many

abbrev pub decreases-loop-name : goal.decreases-loop-name
decreases-loop-name l = length l.rest
