-- Stretches of a run, put together.
use Rattle.std.proofs.Common.{◌≡◌, ℕ, zero, suc, ◌+◌, ◌≤◌, refl, sym, ap, subst, ◌∙◌, arith}
use Rattle.je_machine.specs.Step.{Step, Takes, Chain, ComesTo, advance, iterate, iterate_all}
use Rattle.je_machine.specs.View.{view_of}

pub comes_refl : {S : Type 0} (step : Step S) (s : S) → ComesTo step s s
comes_refl step s = λ n. (n, omega arith, refl)

pub comes_then : {S : Type 0} (step : Step S) (s t u : S) → ComesTo step s t → ComesTo step t u → ComesTo step s u
comes_then step s t u p q = λ n.
    let second = q n in
    let first = p second.0 in
    (first.0, (let a = second.1 in let b = first.1 in omega arith), first.2 ∙ second.2)

-- one step
pub takes_all : {S : Type 0} (step : Step S) (s t : S) → Takes step s t → (n : ℕ) → iterate_all step (suc n) s ≡ iterate_all step n t
takes_all step s t takes n = ap (advance (iterate step n)) (takes n)

pub comes_next : {S : Type 0} (step : Step S) (s t : S) → Takes step s t → ComesTo step s t
comes_next step s t takes = λ n. (suc n, omega arith, takes_all step s t takes n)

pub chain_runs : {S : Type 0} (step : Step S) (count : ℕ) (s t : S) → Chain step count s t → (n : ℕ)
    → iterate_all step (n + count) s ≡ iterate_all step n t
chain_runs step zero s t e n =
    let same : n + 0 ≡ n = omega arith in
    ap (λ (m : ℕ). iterate_all step m s) same ∙ ap (iterate_all step n) e
chain_runs step (suc count) s t chain n =
    let same : n + suc count ≡ suc (n + count) = omega arith in
    ap (λ (m : ℕ). iterate_all step m s) same ∙ takes_all step s chain.0 chain.1 (n + count) ∙ chain_runs step count chain.0 t chain.2 n

pub chain_comes : {S : Type 0} (step : Step S) (count : ℕ) (s t : S) → Chain step count s t → ComesTo step s t
chain_comes step count s t chain = λ n. (n + count, omega arith, chain_runs step count s t chain n)

pub chain_then : {S : Type 0} (step : Step S) (m n : ℕ) (s t u : S) → Chain step m s t → Chain step n t u → Chain step (m + n) s u
chain_then step zero n s t u e q =
    let same : n ≡ 0 + n = omega arith in
    subst (λ (k : ℕ). Chain step k s u) same (subst (λ (at : _). Chain step n at u) (sym e) q)
chain_then step (suc m) n s t u p q =
    let same : suc (m + n) ≡ suc m + n = omega arith in
    subst (λ (k : ℕ). Chain step k s u) same (p.0, p.1, chain_then step m n p.0 t u p.2 q)

pub comes_shows : {S : Type 0} (step : Step S) (s t : S) → ComesTo step s t → (n : ℕ)
    → (m : ℕ) × (n ≤ m) × (view_of (iterate_all step m s) ≡ view_of (iterate_all step n t))
comes_shows step s t p n = let first = p n in (first.0, first.1, ap view_of first.2)
