-- A longer bound only extends what a steady step's runs show.
use Rattle.std.proofs.Common.{◌≡◌, ℕ, zero, suc, ◌+◌, ◌-◌, ◌≤◌, List, [], ◌++◌, Option, Some, None, refl, sym, ap, subst, ◌∙◌, ◌⊎◌, inl, inr, arith, append_assoc}
use Rattle.std.specs.Prelude.{IsSome, option_map}
use Rattle.std.proofs.lemmas.List.{append-nil}
use Rattle.je_machine.specs.Outside.{Event, Outside}
use Rattle.je_machine.specs.Step.{Ending, Outcome, Progress, Goes, Stops, Step, advance, iterate, iterate_all}
use Rattle.je_machine.specs.View.{View, Follows, AgreeingRuns, IsViewPrefix, IsSteady, BeginsEvents, outside_after, view_of, with_more}

pub view_refl : (v : View) → IsViewPrefix v v
view_refl v = record { begins = ([], sym (append-nil v.events)); final = λ e. refl }

pub begins_refl : (a : Outside) → BeginsEvents a a
begins_refl a = ([], sym (append-nil a.events))

pub begins_then : (a b c : Outside) → BeginsEvents a b → BeginsEvents b c → BeginsEvents a c
begins_then a b c p q = (p.0 ++ q.0, q.1 ∙ ap (λ (l : List Event). l ++ q.0) p.1 ∙ append_assoc a.events p.0 q.0)

pub none_or_some : {A : Type 0} (o : Option A) → (o ≡ None) ⊎ IsSome o
none_or_some None = inl refl
none_or_some (Some x) = inr refl

pub no_value : {A : Type 0} (o : Option A) → o ≡ None → IsSome o → ⊥
no_value None e h = absurd cc
no_value (Some x) e h = absurd cc

no_end : (o : Outcome) → o.ending ≡ None → IsSome (view_of o).end → ⊥
no_end o e h = no_value (view_of o).end (ap (option_map (λ (ending : Ending). (ending, o.outside.heap))) e) h

module _ {S : Type 0} (step : Step S) (steady : IsSteady step) where
  -- what a stretch that comes to p, and then goes on, shows at the least
  grows_on : (next : ℕ → S → Outcome) → ((left : ℕ) (t : S) → BeginsEvents (step.outside t) (next left t).outside) → (p : Progress S)
      → BeginsEvents (outside_after step p) (advance next p).outside
  grows_on next rest (Goes left t) = rest left t
  grows_on next rest (Stops o) = begins_refl o.outside

  grows : (turns bound : ℕ) (s : S) → BeginsEvents (step.outside s) (iterate step turns bound s).outside
  grows zero bound s = begins_refl (step.outside s)
  grows (suc turns) bound s =
      begins_then (step.outside s) (outside_after step (step.take bound s)) (iterate step (suc turns) bound s).outside (steady.adds bound s)
      (grows_on (iterate step turns) (λ left t. grows turns left t) (step.take bound s))

  goes_further : (b c left : ℕ) (s t : S) → b ≤ c → step.take b s ≡ Goes left t → step.take c s ≡ Goes (left + (c - b)) t
  goes_further b c left s t le e =
      let k : b + (c - b) ≡ c = omega arith in
      subst (λ (d : ℕ). step.take d s ≡ Goes (left + (c - b)) t) k (steady.goes_on b left (c - b) s t e)

  ends_further : (b c : ℕ) (s : S) (o : Outcome) → b ≤ c → step.take b s ≡ Stops o → IsSome o.ending → step.take c s ≡ Stops (with_more (c - b) o)
  ends_further b c s o le e h =
      let k : b + (c - b) ≡ c = omega arith in
      subst (λ (d : ℕ). step.take d s ≡ Stops (with_more (c - b) o)) k (steady.ends b (c - b) s o e h)

  waits_further : (b c : ℕ) (s : S) (o : Outcome) → b ≤ c → step.take b s ≡ Stops o → o.ending ≡ None → BeginsEvents o.outside (outside_after step (step.take c s))
  waits_further b c s o le e h =
      let k : b + (c - b) ≡ c = omega arith in
      subst (λ (d : ℕ). BeginsEvents o.outside (outside_after step (step.take d s))) k (steady.waits b (c - b) s o e h)

  -- a stop of the shorter run
  extends_stop : (m n b c : ℕ) (s : S) (o : Outcome) → b ≤ c → step.take b s ≡ Stops o → (o.ending ≡ None) ⊎ IsSome o.ending
      → IsViewPrefix (view_of o) (view_of (advance (iterate step n) (step.take c s)))
  extends_stop m n b c s o le e (inl none) =
      record {
        begins = begins_then o.outside (outside_after step (step.take c s)) (advance (iterate step n) (step.take c s)).outside (waits_further b c s o le e none) (grows_on (iterate step n) (λ left t. grows n left t) (step.take c s));
        final = λ h. absurd (no_end o none h);
      }
  extends_stop m n b c s o le e (inr some) =
      rw (ends_further b c s o le e some) (view_refl (view_of o))

  extends_step : (m n b c : ℕ) (s : S) (p : Progress S) → b ≤ c → b ≤ suc m → c ≤ suc n → step.take b s ≡ p
      → ((left : ℕ) (t : S) → left ≤ m → left + (c - b) ≤ n → IsViewPrefix (view_of (iterate step m left t)) (view_of (iterate step n (left + (c - b)) t)))
      → IsViewPrefix (view_of (advance (iterate step m) p)) (view_of (advance (iterate step n) (step.take c s)))
  extends_step m n b c s (Goes left t) le bm cn e rest =
      let less = steady.spends b left s t e in
      rw (goes_further b c left s t le e) (rest left t (omega arith) (omega arith))
  extends_step m n b c s (Stops o) le bm cn e rest = extends_stop m n b c s o le e (none_or_some o.ending)

  pub extends_run : (m n b c : ℕ) (s : S) → m ≤ n → b ≤ c → b ≤ m → c ≤ n → IsViewPrefix (view_of (iterate step m b s)) (view_of (iterate step n c s))
  extends_run zero n b c s mn bc bm cn = record { begins = grows n c s; final = λ h. absurd (no_end (iterate step zero b s) refl h) }
  extends_run (suc m) zero b c s mn bc bm cn = absurd (omega arith)
  extends_run (suc m) (suc n) b c s mn bc bm cn =
      extends_step m n b c s (step.take b s) bc bm cn refl (λ left t lm ln. extends_run m n left (left + (c - b)) t (omega arith) (omega arith) lm ln)

  ended_step : (m n b c : ℕ) (s : S) (p : Progress S) → b ≤ c → b ≤ suc m → c ≤ suc n → step.take b s ≡ p
      → ((left : ℕ) (t : S) → left ≤ m → left + (c - b) ≤ n → IsSome (iterate step m left t).ending → iterate step n (left + (c - b)) t ≡ with_more (c - b) (iterate step m left t))
      → IsSome (advance (iterate step m) p).ending → advance (iterate step n) (step.take c s) ≡ with_more (c - b) (advance (iterate step m) p)
  ended_step m n b c s (Goes left t) le bm cn e rest h =
      let less = steady.spends b left s t e in
      rw (goes_further b c left s t le e) (rest left t (omega arith) (omega arith) h)
  ended_step m n b c s (Stops o) le bm cn e rest h = rw (ends_further b c s o le e h) refl

  pub ended_run : (m n b c : ℕ) (s : S) → m ≤ n → b ≤ c → b ≤ m → c ≤ n → IsSome (iterate step m b s).ending → iterate step n c s ≡ with_more (c - b) (iterate step m b s)
  ended_run zero n b c s mn bc bm cn h = absurd (no_value (iterate step zero b s).ending refl h)
  ended_run (suc m) zero b c s mn bc bm cn h = absurd (omega arith)
  ended_run (suc m) (suc n) b c s mn bc bm cn h =
      ended_step m n b c s (step.take b s) bc bm cn refl
      (λ left t lm ln g. subst (λ (k : ℕ). iterate step n (left + (c - b)) t ≡ with_more k (iterate step m left t)) (omega arith) (ended_run m n left (left + (c - b)) t (omega arith) (omega arith) lm ln g)) h

-- ---- two runs

-- A run that follows another with a lag shows the same: what it shows under a bound the other shows
-- under that bound and the lag.
pub agrees : {S : Type 0} (step : Step S) → IsSteady step → (s : S) (old : ℕ → Outcome) (lag : ℕ)
    → ((n : ℕ) → Follows old (λ m. iterate_all step m s) lag n) → AgreeingRuns old (λ m. iterate_all step m s)
agrees step steady s old lag follows = record {
  shows = λ n.
      let f = follows n in
      (f.bound, subst (IsViewPrefix (view_of (old n))) f.same (view_refl (view_of (old n))));
  shows_only = λ m.
      let f = follows (m + lag) in
      let later : m ≤ f.bound = let k = f.near in omega arith in (
        m + lag,
        subst (IsViewPrefix (view_of (iterate_all step m s))) (sym f.same)
            (extends_run step steady m f.bound m f.bound s later later (omega arith) (omega arith)),
      );
}
