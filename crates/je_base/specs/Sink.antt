-- What a sink took.
use Rattle.std.specs.Prelude.{◌≡◌, ℕ, List, ◌++◌, take, Option, Some, None}

-- a front of the piece was added, which may be empty or all of it
abbrev pub GainsFront : List ℕ → Option (List ℕ) → Option (List ℕ) → Type 0
GainsFront piece (Some old) (Some new) = (n : ℕ) × (new ≡ old ++ take n piece)
GainsFront piece None None = Unit {0}
GainsFront piece _ _ = ⊥
