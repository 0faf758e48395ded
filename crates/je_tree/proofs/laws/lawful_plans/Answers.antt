use Rattle.std.proofs.Common.{◌≡◌, [], ◌∷◌, false, refl, arith}
use Rattle.std.specs.Prelude.{codes}
use Rattle.je_tokens.specs.Words.{is_reserved, reserved_words}
use Rattle.je_tree.proofs.laws.lawful_plans.Goals as goal

is_a : is_reserved (codes "a") ≡ false
unfolding is_reserved reserved_words
is_a = refl

is_b : is_reserved (codes "b") ≡ false
unfolding is_reserved reserved_words
is_b = refl

pub returns-clause-constructor : goal.returns-clause-constructor
returns-clause-constructor c p lawful named = lawful.no_body named

pub returns-clause-parameters : goal.returns-clause-parameters
returns-clause-parameters c r lawful given = (lawful.member (lawful.params given).1).1

pub returns-clause-path : goal.returns-clause-path
returns-clause-path c = (
  codes "a" ∷ codes "b" ∷ [],
  λ e. cc,
  (((refl, _), is_a, omega arith), (((refl, _), is_b, omega arith), _)),
  refl,
  omega arith,
)

pub returns-clause-empty : goal.returns-clause-empty
returns-clause-empty c ([], some, all, same, short) = some refl
returns-clause-empty c ([] ∷ more, some, (first, others), same, short) = absurd first.0
returns-clause-empty c ((d ∷ text) ∷ [], some, all, same, short) = cc
returns-clause-empty c ((d ∷ text) ∷ next ∷ more, some, all, same, short) = cc
