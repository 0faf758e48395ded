-- A run that follows each step of another shows the same.
use Rattle.std.proofs.Common.{◌≡◌, ℕ, zero, suc, ◌+◌, ◌≤◌, refl, sym, ap, ◌∙◌, arith}
use Rattle.std.specs.Prelude.{None}
use Rattle.je_machine.specs.Outside.{Outside}
use Rattle.je_machine.specs.Step.{Step, Outcome, Progress, Goes, Stops, advance, iterate, iterate_all}
use Rattle.je_machine.specs.View.{IsSteady, Follows, AgreeingRuns, view_of}
use Rattle.je_machine.specs.Simulation.{Pairs, IsFollowed, Simulates}
use Rattle.je_machine.proofs.RunLemmas.{agrees}
use Rattle.je_machine.proofs.ChainLemmas.{chain_runs}

-- what a run of so many turns shows, the new run shows
abbrev IsShown : {I S U : Type 0} → Pairs I S U → Step U → ℕ → I → Outcome → Type 0
IsShown pairs new bound i o = (m : ℕ) × (bound ≤ m + pairs.lag i) × (view_of o ≡ view_of (iterate_all new m (pairs.new i)))

module _ {I S U : Type 0} (pairs : Pairs I S U) (old : Step S) (new : Step U) (simulates : Simulates pairs old new) where
  by_progress : (turns bound : ℕ) (i : I) (p : Progress S) → bound ≤ suc turns → old.take bound (pairs.old i) ≡ p → IsFollowed pairs new bound i p
      → ((left : ℕ) (j : I) → left ≤ turns → IsShown pairs new left j (iterate old turns left (pairs.old j)))
      → IsShown pairs new bound i (advance (iterate old turns) p)
  by_progress turns bound i (Goes left t) le e f next =
      let less = simulates.spends bound left i t e in
      let rest = next left f.0 (omega arith) in
      let near = f.4 in
      let near' = rest.1 in
      (rest.0 + f.1, omega arith, ap (λ (u : S). view_of (iterate old turns left u)) (sym f.2) ∙ rest.2 ∙ sym (ap view_of (chain_runs new f.1 (pairs.new i) (pairs.new f.0) f.3 rest.0)))
  by_progress turns bound i (Stops o) le e f next = f

  shown : (turns bound : ℕ) (i : I) → bound ≤ turns → IsShown pairs new bound i (iterate old turns bound (pairs.old i))
  shown zero bound i le =
      (0, omega arith, ap (λ (o : Outside). view_of (record { ending = None; left = bound; locals = old.locals (pairs.old i); outside = o })) (simulates.alike i))
  shown (suc turns) bound i le =
      by_progress turns bound i (old.take bound (pairs.old i)) le refl (simulates.each bound i) (λ left j less. shown turns left j less)

  pub simulated : (i : I) (n : ℕ) → Follows (λ k. iterate_all old k (pairs.old i)) (λ m. iterate_all new m (pairs.new i)) (pairs.lag i) n
  simulated i n =
      let s = shown n n i (omega arith) in
      record { bound = s.0; near = s.1; same = s.2 }

  pub simulation_agrees : IsSteady new → (i : I) → AgreeingRuns (λ k. iterate_all old k (pairs.old i)) (λ m. iterate_all new m (pairs.new i))
  simulation_agrees steady i = agrees new steady (pairs.new i) (λ k. iterate_all old k (pairs.old i)) (pairs.lag i) (simulated i)
