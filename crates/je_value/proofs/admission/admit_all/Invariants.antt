use Rattle.std.proofs.Common.{◌≡◌, ◌++◌, length}
use Rattle.je_machine.specs.Value.{admit_all}
use Rattle.je_value.proofs.admission.admit_all.Given as goal

-- those admitted so far and those that come are all
abbrev pub invariant-loop-kind : goal.invariant-loop-kind
invariant-loop-kind l = l.all ++ admit_all l.left l.given ≡ admit_all l.fn.kinds l.fn.values

abbrev pub decreases-loop-kind : goal.decreases-loop-kind
decreases-loop-kind l = length l.left
