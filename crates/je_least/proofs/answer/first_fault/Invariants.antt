use Rattle.std.proofs.Common.{ℕ, ◌<◌, map}
use Rattle.je_shape.specs.Least.{IsFault}
use Rattle.je_least.specs.Knowns.{known_seen}
use Rattle.je_least.specs.Plans.{plan_seen}
use Rattle.je_least.specs.Searching.{assigned}
use Rattle.je_least.proofs.answer.first_fault.Given as goal

abbrev pub invariant-loop-index : goal.invariant-loop-index
invariant-loop-index l = (at : ℕ) → at < l.index → IsFault (plan_seen l.plan) (assigned (map known_seen l.table)) at → ⊥
