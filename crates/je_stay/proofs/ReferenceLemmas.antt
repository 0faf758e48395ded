-- The run of a reference keeps to what is known of its places.
use Rattle.std.proofs.Common.{◌≡◌, ℕ, zero, suc, ◌<◌, ◌≤◌, ◌⊎◌, inl, inr, List, [], ◌∷◌, length, Option, Some, None, refl, ap, subst, arith}
use Rattle.std.specs.Prelude.{IsTrue, IsSome, slice_get, option_map}
use Rattle.std.proofs.lemmas.Option.{slice_get_past}
use Rattle.je_machine.specs.Value.{Kind, Value}
use Rattle.je_machine.specs.Classes.{Classes}
use Rattle.je_machine.specs.Outside.{Outside}
use Rattle.je_machine.specs.Operation.{Operation, Handler}
use Rattle.je_machine.specs.Frame.{Frame, Flow, Falls, Jumps, Leaves, Raises, Halts, perform}
use Rattle.je_machine.specs.Step.{Outcome, Progress, Goes, Stops, advance, iterate}
use Rattle.je_machine.specs.Machine.{State, Outer, catcher, enter_handler, follow}
use Rattle.je_shape.specs.Shape.{Known, Nothing, Has, Broken}
use Rattle.je_shape.specs.Least.{Assignment}
use Rattle.je_fit.specs.Fits.{fits_known}
use Rattle.je_splice.specs.Block.{Completes, Throws, Returns, Meant, Exits, Stays}
use Rattle.je_splice.specs.Reference.{Doing, Performs, Means, Reference, thrown_at, follow_meant, do_at, take_reference, reference_step}
use Rattle.je_splice.specs.Layout.{Item, next_place}
use Rattle.je_splice.specs.Laid.{Fragment, doing_of, reference_of, FitsItem, Fits}
use Rattle.je_stay.specs.Keeping.{DoingKeeps, ItemsKeep, MayComeTo, ThrowKeeps, PerformKeeps, MeantKeeps, IsShaped}
use Rattle.je_stay.specs.Visits.{Visits}

pub less_or_not : (a b : ℕ) → (a < b) ⊎ (b ≤ a)
less_or_not zero zero = inr (omega arith)
less_or_not zero (suc b) = inl (omega arith)
less_or_not (suc a) zero = inr (omega arith)
less_or_not (suc a) (suc b) = elim (less_or_not a b) [ inl h ↦ inl (omega (arith, h)) | inr h ↦ inr (omega (arith, h)) ]

-- it goes on in a frame that fits, or stops as it may
abbrev pub StepKeeps : Option (Option Kind) → Assignment → Progress State → Type 0
StepKeeps kind x (Goes left s) = IsTrue (fits_known (x s.place) s.frame)
StepKeeps kind x (Stops outcome) = MayComeTo kind outcome

enter_keeps : (kind : Option (Option Kind)) (x : Assignment) (to : Option ℕ) (left : ℕ) (v : Value) (locals : List Value) (o : Outside) → ThrowKeeps x to v locals
    → StepKeeps kind x (enter_handler to left v locals o)
enter_keeps kind x (Some to) left v locals o h = h.1
enter_keeps kind x None left v locals o h = h.0

pub follow_keeps : (kind : Option (Option Kind)) (x : Assignment) (next : ℕ) (outer : Outer) (left : ℕ) (locals : List Value) (flow : Flow) → PerformKeeps kind x (x next) outer locals flow
    → StepKeeps kind x (follow next outer left locals flow)
follow_keeps kind x next outer left locals (Falls f o) h = h
follow_keeps kind x next outer left locals (Jumps target f o) h = h
follow_keeps kind x next outer left locals (Leaves result o) h = h
follow_keeps kind x next outer left locals (Raises v o) h = enter_keeps kind x (outer o.heap v) left v locals o h
follow_keeps kind x next outer left locals (Halts o) h = tt

meant_keeps : (kind : Option (Option Kind)) (x : Assignment) (next : ℕ) (outer : Outer) (meant : Meant) → MeantKeeps kind x (x next) outer meant
    → StepKeeps kind x (follow_meant next outer meant)
meant_keeps kind x next outer (Exits (Completes stack) left locals o) h = h
meant_keeps kind x next outer (Exits (Throws v) left locals o) h = enter_keeps kind x (outer o.heap v) left v locals o h
meant_keeps kind x next outer (Exits (Returns result) left locals o) h = h
meant_keeps kind x next outer (Stays left locals o) h = tt

-- where nothing is known no frame fits
pub nothing_fits : (k : Known) (f : Frame) → k ≡ Nothing → IsTrue (fits_known k f) → ⊥
nothing_fits Nothing f e h = absurd cc
nothing_fits (Has s) f e h = absurd cc
nothing_fits Broken f e h = absurd cc

some_done : (found : Option Doing) → (found ≡ None → ⊥) → IsSome found
some_done None never = absurd (never refl)
some_done (Some doing) never = refl

module _ (kind : Option (Option Kind)) (x : Assignment) (r : Reference) (shaped : IsShaped kind x r) where
  do_keeps : (classes : Classes) (left : ℕ) (s : State) (found : Option Doing) → r.doing s.place ≡ found → IsTrue (fits_known (x s.place) s.frame)
      → StepKeeps kind x (do_at classes (r.next s.place) (thrown_at r classes s.place) left found s)
  do_keeps classes left s None e fit = tt
  do_keeps classes left s (Some (Performs operation)) e fit =
      follow_keeps kind x (r.next s.place) (thrown_at r classes s.place) left s.frame.locals (perform classes operation s.frame s.outside)
      (shaped.each s.place (Performs operation) e classes s.frame s.outside fit)
  do_keeps classes left s (Some (Means meaning)) e fit =
      meant_keeps kind x (r.next s.place) (thrown_at r classes s.place) (meaning classes left s.frame s.outside) (shaped.each s.place (Means meaning) e classes left s.frame s.outside fit)

  take_keeps : (classes : Classes) (bound : ℕ) (s : State) → IsTrue (fits_known (x s.place) s.frame) → StepKeeps kind x (take_reference r classes bound s)
  take_keeps classes zero s fit = tt
  take_keeps classes (suc left) s fit = do_keeps classes left s (r.doing s.place) refl fit

  pub step_kept : (classes : Classes) (bound left : ℕ) (s t : State) → IsTrue (fits_known (x s.place) s.frame) → take_reference r classes bound s ≡ Goes left t
      → IsTrue (fits_known (x t.place) t.frame)
  step_kept classes bound left s t fit e = subst (StepKeeps kind x) e (take_keeps classes bound s fit)

  pub is_done : (s : State) → IsTrue (fits_known (x s.place) s.frame) → IsSome (r.doing s.place)
  is_done s fit = some_done (r.doing s.place) (λ e. nothing_fits (x s.place) s.frame (shaped.inside s.place e) fit)

  pub visited : (classes : Classes) (count bound : ℕ) (s : State) (left : ℕ) (t : State) → IsTrue (fits_known (x s.place) s.frame) → Visits (reference_step r classes) count bound s left t
      → IsTrue (fits_known (x t.place) t.frame)
  visited classes zero bound s left t fit v = subst (λ (u : State). IsTrue (fits_known (x u.place) u.frame)) v.1 fit
  visited classes (suc count) bound s left t fit v = visited classes count v.0 v.1 left t (step_kept classes bound v.0 s v.1 fit v.2) v.3

  advance_keeps : (next : ℕ → State → Outcome) (p : Progress State) → ((left : ℕ) (s : State) → IsTrue (fits_known (x s.place) s.frame) → MayComeTo kind (next left s)) → StepKeeps kind x p
      → MayComeTo kind (advance next p)
  advance_keeps next (Goes left s) on h = on left s h
  advance_keeps next (Stops o) on h = h

  pub run_keeps : (classes : Classes) (turns bound : ℕ) (s : State) → IsTrue (fits_known (x s.place) s.frame) → MayComeTo kind (iterate (reference_step r classes) turns bound s)
  run_keeps classes zero bound s fit = tt
  run_keeps classes (suc turns) bound s fit =
      advance_keeps (iterate (reference_step r classes) turns) (take_reference r classes bound s) (λ left t k. run_keeps classes turns left t k) (take_keeps classes bound s fit)

-- ---- in the form that laid programs ask for

within_none : {A : Type 0} (xs : List A) (at : ℕ) → at < length xs → slice_get xs at ≡ None → ⊥
within_none [] at h e = omega (arith, h)
within_none (x ∷ xs) zero h e = absurd cc
within_none (x ∷ xs) (suc at) h e = within_none xs at (omega (arith, h)) e

past_items : (items : List (Item Operation Fragment)) (place : ℕ) → (place < length items) ⊎ (length items ≤ place) → slice_get items place ≡ None → length items ≤ place
past_items items place (inr le) is = le
past_items items place (inl less) is = absurd (within_none items place less is)

past_done : (items : List (Item Operation Fragment)) (place : ℕ) → (place < length items) ⊎ (length items ≤ place) → (option_map doing_of (slice_get items place) ≡ None → ⊥)
    → place < length items
past_done items place (inl less) never = less
past_done items place (inr le) never = absurd (never (ap (option_map doing_of) (slice_get_past items place le)))

item_keeps : (kind : Option (Option Kind)) (x : Assignment) (items : List (Item Operation Fragment)) (handlers : List Handler) → ItemsKeep kind x items handlers → (place : ℕ) (doing : Doing)
    (found : Option (Item Operation Fragment)) → slice_get items place ≡ found → option_map doing_of found ≡ Some doing
    → DoingKeeps kind x (x place) (x (next_place items place)) (λ classes. catcher handlers classes place) doing
item_keeps kind x items handlers keep place doing None is e = absurd cc
item_keeps kind x items handlers keep place doing (Some item) is e =
    let same : doing_of item ≡ doing = cc in
    subst (λ d. DoingKeeps kind x (x place) (x (next_place items place)) (λ classes. catcher handlers classes place) d) same (keep.each place item is)

none_past : (items : List (Item Operation Fragment)) (place : ℕ) (found : Option (Item Operation Fragment)) → slice_get items place ≡ found → option_map doing_of found ≡ None → length items ≤ place
none_past items place None is e = past_items items place (less_or_not place (length items)) is
none_past items place (Some item) is e = absurd cc

pub items_shaped : (kind : Option (Option Kind)) (x : Assignment) (parameters : List Kind) (items : List (Item Operation Fragment)) (handlers : List Handler) → ItemsKeep kind x items handlers
    → IsShaped kind x (reference_of parameters items handlers)
items_shaped kind x parameters items handlers keep =
    record {
      each = λ place doing e. item_keeps kind x items handlers keep place doing (slice_get items place) refl e;
      inside = λ place e. keep.behind place (none_past items place (slice_get items place) refl e);
    }

pub items_fit : (kind : Option (Option Kind)) (x : Assignment) (limit : ℕ) (parameters : List Kind) (items : List (Item Operation Fragment)) (handlers : List Handler)
    → IsShaped kind x (reference_of parameters items handlers)
    → ((place : ℕ) (item : Item Operation Fragment) → slice_get items place ≡ Some item → FitsItem limit (fits_known (x place)) item)
    → Fits limit (λ place. fits_known (x place)) parameters items handlers
items_fit kind x limit parameters items handlers shaped each =
    record {
      each = each;
      inside = λ place frame fit. past_done items place (less_or_not place (length items)) (λ e. nothing_fits (x place) frame (shaped.inside place e) fit);
      kept = λ classes bound left s t fit e. step_kept kind x (reference_of parameters items handlers) shaped classes bound left s t fit e;
    }
