-- The states that a run comes to, where steps may spend more than one of the bound.
use Rattle.std.specs.Prelude.{◌≡◌, ℕ, zero, suc}
use Rattle.je_machine.specs.Step.{Step, Goes}

-- after so many steps from the one state the run is in the other, with this bound left
abbrev pub Visits : {S : Type 0} → Step S → ℕ → ℕ → S → ℕ → S → Type 0
Visits step zero bound s left t = (bound ≡ left) × (s ≡ t)
Visits {S} step (suc count) bound s left t =
    (rest : ℕ) × (u : S) × (step.take bound s ≡ Goes rest u) × Visits step count rest u left t
