-- A standard stream.
use Rattle.std.specs.Prelude.{ℕ, List, Option}

-- What was done to the stream, and the bytes that it holds where it tells them.
pub record SinkCounts : Type 0 where
  pub sent : Option (List ℕ)
  pub puts : ℕ
  pub faults : ℕ
