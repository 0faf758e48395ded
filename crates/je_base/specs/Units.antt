-- Serves private functions: the units of modified UTF-8, read a byte at a time.
use Rattle.std.specs.Prelude.{◌≡◌, ℕ, Bool, true, ◌&&◌, nat_le, ◌+◌, ◌⊎◌, List, ◌++◌}
use Rattle.std.specs.List.{AllByRecursion, fold}
use Rattle.je_base.specs.Text.{IsSingle, IsFirstOfTwo, IsFirstOfThree, IsContinuation}

-- the byte begins a unit, and so many continuations follow it there
abbrev pub Begins : ℕ → ℕ → Type 0
Begins b after =
    ((after ≡ 0) × IsSingle b)
    ⊎ (((after ≡ 1) × IsFirstOfTwo b) ⊎ ((after ≡ 2) × IsFirstOfThree b))

-- where so many continuations are wanted the byte may stand, and so many are wanted after it
abbrev pub Follows : ℕ → ℕ → ℕ → Type 0
Follows wanted b after = ((wanted ≡ 0) × Begins b after) ⊎ ((wanted ≡ after + 1) × IsContinuation b)

-- whether each of the bytes is a unit by itself
abbrev pub are_singles : List ℕ → Bool
are_singles bytes = fold (λ all b. (all && nat_le 0x01 b) && nat_le b 0x7f) true bytes

-- this is left after some such bytes
abbrev pub SkipsSingles : List ℕ → List ℕ → Type 0
SkipsSingles bytes left = (front : List ℕ) × AllByRecursion IsSingle front × (bytes ≡ front ++ left)
