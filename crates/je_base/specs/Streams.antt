-- Serves private functions: what is read from a stream and written to one.
use Rattle.std.specs.Prelude.{◌≡◌, ℕ, List, take, Option, Some, None}
use Rattle.std.specs.Io.KnownBytes.{Appends}

-- these are the first `limit` bytes that were left, where those are known
abbrev pub IsFrontOf : Option (List ℕ) → ℕ → List ℕ → Type 0
IsFrontOf None limit bytes = Unit {0}
IsFrontOf (Some left) limit bytes = bytes ≡ take limit left

-- the stream is one to which, since it was made, these bytes were added, where its contents are
-- known
abbrev pub GainsAll : {F : Type 0} → (F → Option (List ℕ)) → List ℕ → F → Type 0
GainsAll {F} contents bytes file = (made : F) × Appends (contents made) (contents file) bytes
