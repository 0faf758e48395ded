use Rattle.std.proofs.Common.{◌≡◌, true, false, refl, sym, ◌∙◌, arith}
use Rattle.std.specs.Prelude.{codes}
use Rattle.je_tokens.specs.Words.{is_reserved, reserved_words}
use Rattle.je_tree.proofs.laws.lawful_forms.Goals as goal

is_a : is_reserved (codes "a") ≡ false
unfolding is_reserved reserved_words
is_a = refl

is_b : is_reserved (codes "b") ≡ false
unfolding is_reserved reserved_words
is_b = refl

is_free : is_reserved (codes "a$1") ≡ false
unfolding is_reserved reserved_words
is_free = refl

is_if : is_reserved (codes "if") ≡ true
unfolding is_reserved reserved_words
is_if = refl

pub returns-clause-sample : goal.returns-clause-sample
returns-clause-sample c = (
  (((_, _), omega arith), _),
  (
    (λ e. cc, (((refl, _), is_a, omega arith), _), omega arith),
    ((λ e. cc, (((refl, _), is_b, omega arith), _), omega arith), _),
  ),
)

pub returns-clause-word : goal.returns-clause-word
returns-clause-word c = ((refl, (refl, (refl, _))), is_free, omega arith)

pub returns-clause-reserved : goal.returns-clause-reserved
returns-clause-reserved c (word, free, short) =
    let e : true ≡ false = sym is_if ∙ free in cc
