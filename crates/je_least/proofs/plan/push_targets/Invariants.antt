use Rattle.std.proofs.Common.{◌≡◌, ◌++◌, take, map}
use Rattle.je_least.proofs.plan.push_targets.Given as goal

abbrev pub invariant-loop-case : goal.invariant-loop-case
invariant-loop-case l = l.list.items ≡ l.initial.list.items ++ map (λ c. c.1) (take l.case-index l.case-items)
