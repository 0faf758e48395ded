-- What a run comes to behind a stretch, and the agreement of two runs.
use Rattle.std.proofs.Common.{◌≡◌, ℕ, zero, suc, ◌+◌, ◌<◌, ◌≤◌, List, [], Option, Some, None, refl, sym, ap, subst, ◌∙◌, ◌⊎◌, inl, inr, arith}
use Rattle.std.specs.Prelude.{IsTrue, Bool}
use Rattle.je_machine.specs.Value.{Value}
use Rattle.je_machine.specs.Classes.{Classes}
use Rattle.je_machine.specs.Outside.{Event, Outside}
use Rattle.je_machine.specs.Operation.{Program}
use Rattle.je_machine.specs.Frame.{frame_of}
use Rattle.je_machine.specs.Step.{Ending, Outcome, Chain, advance, iterate, iterate_all}
use Rattle.je_machine.specs.Machine.{State, state_at, machine_step, perform_at, follow, catcher}
use Rattle.je_machine.specs.View.{View, IsViewPrefix, AgreeingRuns, view_of}
use Rattle.je_machine.proofs.ChainLemmas.{chain_runs, chain_then}
use Rattle.je_machine.proofs.RunLemmas.{extends_run, view_refl}
use Rattle.je_machine.proofs.StepLemmas.{machine_steady}
use Rattle.je_splice.specs.Stretch.{Closes, Waits, Idles}
use Rattle.je_splice.specs.Comes.{weight, EndsWith, IdlesWith, ComesBy, Body, Does}

-- ---- weights

pub weight_add : (most m n : ℕ) → weight most (m + n) ≡ weight most m + weight most n
weight_add most zero n =
    let e : 0 + n ≡ n = omega arith in
    ap (weight most) e ∙ omega arith
weight_add most (suc m) n =
    let e : suc m + n ≡ suc (m + n) = omega arith in
    ap (weight most) e ∙ omega (arith, weight_add most m n)

pub weight_ge : (most n : ℕ) → n ≤ weight most n
weight_ge most zero = omega arith
weight_ge most (suc n) = omega (arith, weight_ge most n)

pub weight_over : (most n : ℕ) → 0 < n → suc (most + n) ≤ weight most n
weight_over most zero h = absurd (omega (arith, h))
weight_over most (suc n) h = omega (arith, weight_ge most n)

pub weight_back : (most m n : ℕ) → weight most m ≤ weight most n → m ≤ n
weight_back most zero n h = omega arith
weight_back most (suc m) zero h = absurd (omega (arith, h))
weight_back most (suc m) (suc n) h = omega (arith, weight_back most m n (omega (arith, h)))

-- ---- behind a stretch

module _ (q : Program) (classes : Classes) where
  pub closes_behind : (c count : ℕ) (t u : State) (ending : Ending) (locals : List Value) (o : Outside) → Chain (machine_step q classes) c t u
      → Closes (machine_step q classes) count u ending locals o → Closes (machine_step q classes) (c + count) t ending locals o
  closes_behind c count t u ending locals o chain h = record {
    last = h.last;
    chain = chain_then (machine_step q classes) c count t u h.last chain h.chain;
    closes = h.closes;
  }

  idles_by : (c least count : ℕ) (last : State) (events : List Event) → ((least ≤ count) × (last.outside.events ≡ events)) ⊎ Waits q classes last events
      → ((c + least ≤ c + count) × (last.outside.events ≡ events)) ⊎ Waits q classes last events
  idles_by c least count last events (inl h) = inl (let a = h.0 in omega (arith, a), h.1)
  idles_by c least count last events (inr h) = inr h

  pub idles_behind : (c least : ℕ) (t u : State) (events : List Event) → Chain (machine_step q classes) c t u → Idles q classes least u events
      → Idles q classes (c + least) t events
  idles_behind c least t u events chain h = record {
    count = c + h.count;
    last = h.last;
    chain = chain_then (machine_step q classes) c h.count t u h.last chain h.chain;
    rest = idles_by c least h.count h.last events h.rest;
  }

  pub comes_behind : (limit most far far' bound bound' c : ℕ) (t u : State) (o : Outcome) (e : Option Ending) → Chain (machine_step q classes) c t u
      → bound + far' ≤ bound' + weight most c + far → ComesBy q classes limit most far' bound' u o e → ComesBy q classes limit most far bound t o e
  comes_behind limit most far far' bound bound' c t u o (Some ending) chain near h =
      let sum = weight_add most c h.count in
      let old = h.near in
      record {
        count = c + h.count;
        locals = h.locals;
        closes = closes_behind c h.count t u ending h.locals o.outside chain h.closes;
        same = h.same;
        near = omega (arith, near, sum, old);
      }
  comes_behind limit most far far' bound bound' c t u o None chain near h =
      let sum = weight_add most c h.least in
      let old = h.near in
      record {
        least = c + h.least;
        idles = idles_behind c h.least t u o.outside.events chain h.idles;
        near = omega (arith, near, sum, old);
      }

-- ---- agreement

-- the run shows this under all bounds from the given one on
Shown : Program → Classes → State → ℕ → View → Type 0
Shown q classes t m v = (n : ℕ) × (m ≤ n) × (view_of (iterate_all (machine_step q classes) n t) ≡ v)

module _ (q : Program) (classes : Classes) (t : State) where
  at_last : (count : ℕ) (last : State) (n : ℕ) → Chain (machine_step q classes) count t last
      → iterate_all (machine_step q classes) (n + count) t ≡ iterate_all (machine_step q classes) n last
  at_last count last n chain = chain_runs (machine_step q classes) count t last chain n

  waits_step : (n : ℕ) (last : State) (events : List Event) → Waits q classes last events
      → view_of (iterate_all (machine_step q classes) (suc n) last) ≡ record { events = events; end = None }
  waits_step n last events w =
      ap (λ op. view_of (advance (iterate (machine_step q classes) n) (perform_at classes (suc last.place) (catcher q.handlers classes last.place) n op last))) w.stands
      ∙ ap (λ f. view_of (advance (iterate (machine_step q classes) n) (follow (suc last.place) (catcher q.handlers classes last.place) n last.frame.locals f))) w.halts
      ∙ ap (λ (e : List Event). record { events = e; end = None }) w.same

  ended_shown : (m limit most far bound : ℕ) (o : Outcome) (ending : Ending) → o.ending ≡ Some ending → EndsWith q classes limit most far bound t ending o
      → Shown q classes t m (view_of o)
  unfolding Shown
  ended_shown m limit most far bound o ending is h =
      let closes = h.closes in (
        suc m + h.count,
        omega arith,
        ap view_of (at_last h.count closes.last (suc m) closes.chain)
            ∙ ap (λ p. view_of (advance (iterate (machine_step q classes) m) p)) (closes.closes m)
            ∙ ap (λ (e : Option Ending). view_of (record { ending = e; left = o.left; locals = o.locals; outside = o.outside })) (sym is),
      )

  idle_shown : (m : ℕ) (events : List Event) (least count : ℕ) (last : State) → Chain (machine_step q classes) count t last → m ≤ least
      → ((least ≤ count) × (last.outside.events ≡ events)) ⊎ Waits q classes last events → Shown q classes t m (record { events = events; end = None })
  unfolding Shown
  idle_shown m events least count last chain le (inl h) =
      let more = h.0 in
      let zero_more : 0 + count ≡ count = omega arith in (
        count,
        omega (arith, le, more),
        ap (λ (n : ℕ). view_of (iterate_all (machine_step q classes) n t)) (sym zero_more)
            ∙ ap view_of (at_last count last 0 chain)
            ∙ ap (λ (e : List Event). record { events = e; end = None }) h.1,
      )
  idle_shown m events least count last chain le (inr w) =
      (suc m + count, omega arith, ap view_of (at_last count last (suc m) chain) ∙ waits_step m last events w)

  idles_shown : (most far bound m : ℕ) (o : Outcome) → o.ending ≡ None → ((least : ℕ) → bound ≤ weight most least + far → m ≤ least)
      → IdlesWith q classes most far bound t o → Shown q classes t m (view_of o)
  unfolding Shown
  idles_shown most far bound m o is le h =
      let idles = h.idles in
      let s = idle_shown m o.outside.events h.least idles.count idles.last idles.chain (le h.least h.near) idles.rest in
      (s.0, s.1, s.2 ∙ ap (λ (e : Option Ending). view_of (record { ending = e; left = o.left; locals = o.locals; outside = o.outside })) (sym is))

  shown_by : (limit most far bound m : ℕ) (o : Outcome) (e : Option Ending) → o.ending ≡ e → ((least : ℕ) → bound ≤ weight most least + far → m ≤ least)
      → ComesBy q classes limit most far bound t o e → Shown q classes t m (view_of o)
  shown_by limit most far bound m o (Some ending) is le h = ended_shown m limit most far bound o ending is h
  shown_by limit most far bound m o None is le h = idles_shown most far bound m o is le h

pub does_agree : (q : Program) (classes : Classes) (limit most far : ℕ) (fine : List Value → Bool) (body : Body) → Does q classes limit most far fine body
    → (locals : List Value) (outside : Outside) → IsTrue (fine locals)
    → AgreeingRuns (λ n. body n locals outside) (λ n. iterate_all (machine_step q classes) n (state_at 0 (frame_of [] locals) outside))
unfolding Shown
does_agree q classes limit most far fine body does locals outside ok =
    let t : State = state_at 0 (frame_of [] locals) outside in
    let old : ℕ → Outcome = λ n. body n locals outside in
    let step = machine_step q classes in
    record {
      shows = λ n.
          let s = shown_by q classes t limit most far n 0 (old n) (old n).ending refl (λ least near. omega arith) (does.does n locals locals outside ok (λ slot less. refl)) in
          (s.0, subst (IsViewPrefix (view_of (old n))) (sym s.2) (view_refl (view_of (old n))));
      shows_only = λ m.
          let n = weight most m + far in
          let s =
          shown_by q classes t limit most far n m (old n) (old n).ending refl (λ least near. weight_back most m least (omega (arith, near)))
          (does.does n locals locals outside ok (λ slot less. refl)) in
          let le = s.1 in
          (n, subst (IsViewPrefix (view_of (iterate_all step m t))) s.2 (extends_run step (machine_steady q classes) m s.0 m s.0 t le le (omega arith) (omega arith)));
    }
