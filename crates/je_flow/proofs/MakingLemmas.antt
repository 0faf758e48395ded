-- Slots that a `new` or a constructor changes, by whether they are the word.
use Rattle.std.proofs.Common.{◌≡◌, ℕ, List, [], ◌∷◌, true, false, refl}
use Rattle.je_shape.specs.Slot.{Word, Slot, Top, Is, Reference, Uninit}
use Rattle.je_shape.specs.Flow.{forgot, made}
use Rattle.je_flow.specs.Seen.{holds_word}

pub is_forgot : (at : ℕ) (s : Slot) → holds_word (Uninit at) s ≡ true → forgot at s ≡ Top
is_forgot at Top e = cc
is_forgot at (Is word) e = rw e
is_forgot at (Reference names) e = cc

pub is_not_forgot : (at : ℕ) (s : Slot) → holds_word (Uninit at) s ≡ false → forgot at s ≡ s
is_not_forgot at Top e = refl
is_not_forgot at (Is word) e = rw e
is_not_forgot at (Reference names) e = refl

pub is_made : (word : Word) (class : List ℕ) (s : Slot) → holds_word word s ≡ true → made word class s ≡ Reference (class ∷ [])
is_made word class Top e = cc
is_made word class (Is other) e = rw e
is_made word class (Reference names) e = cc

pub is_not_made : (word : Word) (class : List ℕ) (s : Slot) → holds_word word s ≡ false → made word class s ≡ s
is_not_made word class Top e = refl
is_not_made word class (Is other) e = rw e
is_not_made word class (Reference names) e = refl

pub ruleset forgot_is = (is_forgot, is_not_forgot)

pub ruleset made_is = (is_made, is_not_made)
