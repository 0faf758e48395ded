-- One run that follows another step by step.
use Rattle.std.specs.Prelude.{◌≡◌, ℕ, ◌+◌, ◌<◌, ◌≤◌}
use Rattle.je_machine.specs.Step.{Step, Progress, Goes, Stops, Chain, iterate_all}
use Rattle.je_machine.specs.View.{view_of}

-- Pairs of states of the two runs, by the two states of each; and how far the second may still fall
-- behind from there.
pub record Pairs (I S U : Type 0) : Type 0 where
  pub old : I → S
  pub new : I → U
  pub lag : I → ℕ

-- Where a step of the old run goes on, the new run goes from the one pair to another by so many
-- steps. It falls behind by no more than the lag becomes less. Where it stops, the new run shows
-- the same.
abbrev pub IsFollowed : {I S U : Type 0} → Pairs I S U → Step U → ℕ → I → Progress S → Type 0
IsFollowed {I} pairs new bound i (Goes left t) =
    (j : I) × (count : ℕ) × (pairs.old j ≡ t) × Chain new count (pairs.new i) (pairs.new j)
    × (bound + pairs.lag j ≤ left + count + pairs.lag i)
IsFollowed pairs new bound i (Stops o) =
    (m : ℕ) × (bound ≤ m + pairs.lag i) × (view_of o ≡ view_of (iterate_all new m (pairs.new i)))

-- the new run follows each step of the old one
pub record Simulates {I S U : Type 0} (pairs : Pairs I S U) (old : Step S) (new : Step U) : Type 0
  where
    pub alike : (i : I) → old.outside (pairs.old i) ≡ new.outside (pairs.new i)
    pub spends : (bound left : ℕ) (i : I) (t : S) → old.take bound (pairs.old i) ≡ Goes left t →
        left < bound
    pub each : (bound : ℕ) (i : I) → IsFollowed pairs new bound i (old.take bound (pairs.old i))
