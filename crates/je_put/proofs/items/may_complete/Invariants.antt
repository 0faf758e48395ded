use Rattle.std.proofs.Common.{◌≡◌, length, find, is_some, nat_eq}
use Rattle.je_put.proofs.items.may_complete.Given as goal

abbrev pub invariant-loop-known : goal.invariant-loop-known
invariant-loop-known l = is_some (find (λ s. nat_eq s.0 l.behind) l.rest) ≡ is_some (find (λ s. nat_eq s.0 l.behind) l.block.shapes)

abbrev pub decreases-loop-known : goal.decreases-loop-known
decreases-loop-known l = length l.rest
