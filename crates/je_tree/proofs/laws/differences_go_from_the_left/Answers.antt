use Rattle.std.proofs.Common.{refl, arith}
use Rattle.je_tree.proofs.laws.differences_go_from_the_left.Goals as goal

pub returns-clause-left : goal.returns-clause-left
returns-clause-left c = (
  _,
  _,
  (_, refl, refl, refl),
  (_, (_, (_, _, (_, _, (_, refl, refl, refl), omega arith, (_, refl, refl), (_, refl, refl, refl), omega arith), omega arith, (_, refl, refl), (_, refl, refl, refl), omega arith), (_, refl, refl)), refl),
  (_, refl, refl),
)

pub returns-clause-right : goal.returns-clause-right
returns-clause-right c (m, k, brace, (l, (n, (o, p, left, strong, sees, right, weak), ends), rest), close) = omega (arith, weak)

pub returns-clause-nodes : goal.returns-clause-nodes
returns-clause-nodes c = refl
