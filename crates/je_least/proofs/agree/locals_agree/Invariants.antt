use Rattle.std.proofs.Common.{length}
use Rattle.std.specs.Prelude.{◌↔◌, map}
use Rattle.je_least.specs.Agreeing.{LocalsAgree}
use Rattle.je_shape.specs.Views.{slot_seen}
use Rattle.je_least.proofs.agree.locals_agree.Given as goal

abbrev pub invariant-loop-y : goal.invariant-loop-y
invariant-loop-y l =
    LocalsAgree (map slot_seen l.left) (map slot_seen l.right) ↔ LocalsAgree (map slot_seen l.a) (map slot_seen l.frame)

abbrev pub decreases-loop-y : goal.decreases-loop-y
decreases-loop-y l = length l.right
