-- A run, turn by turn.
use Rattle.std.proofs.Common.{◌≡◌, ℕ, zero, suc, ◌<◌, ◌≤◌, ◌-◌, ◌+◌, sym, ap, ◌∙◌, arith}
use Rattle.je_machine.specs.Classes.{Classes}
use Rattle.je_machine.specs.Operation.{Program}
use Rattle.je_machine.specs.Machine.{State, take_step}
use Rattle.je_machine.specs.Step.{Outcome, Goes, Stops, advance, iterate}
use Rattle.je_vm.specs.Machine.{paused_at}
use Rattle.je_probe.specs.Kept.{kept, kept_step}

-- a turn that goes on
pub went : (p : Program) (k : Classes) (count i left less : ℕ) (here next : State) (all : Outcome)
    → i < count → Goes less next ≡ take_step p k left (kept here)
    → iterate (kept_step p k) (count - i) left here ≡ all
    → iterate (kept_step p k) (count - (i + 1)) less next ≡ all
went p k count i left less here next all h e before =
    let n : count - i ≡ suc (count - (i + 1)) = omega (arith, h) in
    ap (advance (iterate (kept_step p k) (count - (i + 1)))) e
    ∙ sym (ap (λ t. iterate (kept_step p k) t left here) n) ∙ before

-- a turn that stops
pub stopped : (p : Program) (k : Classes) (count i left : ℕ) (here : State) (outcome all : Outcome)
    → i < count → Stops outcome ≡ take_step p k left (kept here)
    → iterate (kept_step p k) (count - i) left here ≡ all → outcome ≡ all
stopped p k count i left here outcome all h e before =
    let n : count - i ≡ suc (count - (i + 1)) = omega (arith, h) in
    ap (advance (iterate (kept_step p k) (count - (i + 1)))) e
    ∙ sym (ap (λ t. iterate (kept_step p k) t left here) n) ∙ before

-- no turn is left
pub ended : (p : Program) (k : Classes) (count i left : ℕ) (here : State) (all : Outcome)
    → count ≤ i → iterate (kept_step p k) (count - i) left here ≡ all
    → paused_at left here ≡ all
ended p k count i left here all h before =
    let n : count - i ≡ zero = omega (arith, h) in
    sym (ap (λ t. iterate (kept_step p k) t left here) n) ∙ before
