-- A program that embeds a reference follows the reference run.
use Rattle.std.proofs.Common.{◌≡◌, ℕ, zero, suc, ◌+◌, ◌<◌, ◌≤◌, List, [], ◌∷◌, length, Option, Some, None, Bool, refl, sym, ap, ◌∙◌, inl, inr, arith}
use Rattle.std.specs.Prelude.{IsTrue, option_map, slice_get}
use Rattle.je_machine.specs.Value.{Value}
use Rattle.je_machine.specs.Classes.{Classes}
use Rattle.je_machine.specs.Outside.{Outside}
use Rattle.je_machine.specs.Operation.{Operation, Goto, Program}
use Rattle.je_machine.specs.Frame.{Frame, Flow, Falls, Jumps, Leaves, Raises, Halts, frame_of, perform}
use Rattle.je_machine.specs.Step.{Outcome, Returned, Progress, Goes, Stops, Step, Chain, Takes, ends, advance, iterate}
use Rattle.je_machine.specs.Machine.{State, state_at, catcher, enter_handler, follow, perform_at, take_step, machine_step}
use Rattle.je_machine.specs.Moved.{retargeted, moved_flow}
use Rattle.je_machine.specs.Slots.{AgreeBelow, AlikeFlows}
use Rattle.je_machine.proofs.ChainLemmas.{chain_then}
use Rattle.je_machine.proofs.MovedLemmas.{perform_retargeted}
use Rattle.je_machine.proofs.SlotLemmas.{perform_alike}
use Rattle.je_splice.specs.Block.{Completes, Throws, Returns, Meant, Exits, Stays}
use Rattle.je_splice.specs.Means.{IsCaught, EndsAs}
use Rattle.je_splice.specs.Comes.{weight, ComesBy, Does}
use Rattle.je_splice.specs.Reference.{Doing, Performs, Means, Reference, thrown_at, follow_meant, do_at, take_reference, reference_step, body_of}
use Rattle.je_splice.specs.Embeds.{Skips, moved_outer, HasOperation, HasPlace, Embeds}
use Rattle.je_splice.proofs.ComesLemmas.{weight_ge, weight_over, comes_behind}

-- the step at a place where this stands
pub takes_stands : (q : Program) (classes : Classes) (s : State) (operation : Operation) → slice_get q.operations s.place ≡ Some operation → (left : ℕ)
    → take_step q classes (suc left) s
    ≡ follow (suc s.place) (catcher q.handlers classes s.place) left s.frame.locals (perform classes operation s.frame s.outside)
takes_stands q classes s operation stands left = ap (λ op. perform_at classes (suc s.place) (catcher q.handlers classes s.place) left op s) stands

pub one_step : (q : Program) (classes : Classes) (s t : State) → Takes (machine_step q classes) s t → Chain (machine_step q classes) 1 s t
one_step q classes s t takes = (t, takes, refl)

-- over a jump, where one stands there
pub skips_chain : (q : Program) (classes : Classes) (a b : ℕ) (frame : Frame) (o : Outside) → Skips q a b
    → (c : ℕ) × Chain (machine_step q classes) c (state_at a frame o) (state_at b frame o)
skips_chain q classes a b frame o (inl e) = (0, ap (λ (place : ℕ). state_at place frame o) e)
skips_chain q classes a b frame o (inr stands) =
    (1, one_step q classes (state_at a frame o) (state_at b frame o) (takes_stands q classes (state_at a frame o) (Goto b) stands))

module _ (r : Reference) (q : Program) (to : ℕ → ℕ) (limit : ℕ) (rank : ℕ → ℕ) (most : ℕ) (ranks : (place : ℕ) → rank place ≤ most) (classes : Classes) where
  -- where the machine stands
  abbrev there : State → List Value → State
  there s own = state_at (to s.place) (frame_of s.frame.stack own) s.outside

  abbrev new : Step State
  new = machine_step q classes

  -- what the machine does while the reference comes to this by one step
  Matches : ℕ → ℕ → State → Progress State → Type 0
  Matches bound place t (Goes left s) =
      (c : ℕ) × (own : List Value) × Chain new c t (there s own) × AgreeBelow limit s.frame.locals own × (left < bound)
      × (bound + suc (rank s.place) ≤ left + weight most c + suc (rank place))
  Matches bound place t (Stops o) = ComesBy q classes limit most (suc (rank place)) bound t o o.ending

  goes_by : (left bound place place' c : ℕ) → bound ≤ left + c → rank place' < rank place → suc bound + suc (rank place') ≤ left + weight most c + suc (rank place)
  goes_by left bound place place' zero near falls = omega (arith, near, falls)
  goes_by left bound place place' (suc c) near falls =
      let over = weight_over most (suc c) (omega arith) in
      let small = ranks place' in
      omega (arith, near, over, small)

  steps_by : (left place place' c : ℕ) → 0 < c → suc left + suc (rank place') ≤ left + weight most c + suc (rank place)
  steps_by left place place' c some =
      let over = weight_over most c some in
      let small = ranks place' in
      omega (arith, over, small)

  caught_by : (left bound place place' c : ℕ) → bound ≤ left + c → 0 < c → suc bound + suc (rank place') ≤ left + weight most c + suc (rank place)
  caught_by left bound place place' c near some =
      let over = weight_over most c some in
      let small = ranks place' in
      omega (arith, near, over, small)

  ends_at : (left bound place count : ℕ) → bound ≤ left + count → suc bound ≤ left + weight most count + suc (rank place)
  ends_at left bound place count near = let over = weight_ge most count in omega (arith, near, over)

  idles_at : (bound place : ℕ) → suc bound ≤ weight most bound + suc (rank place)
  idles_at bound place = let over = weight_ge most bound in omega (arith, over)

  -- ---- an instruction

  module _ (place : ℕ) (operation : Operation) (has : HasOperation r q to limit place operation) (left : ℕ) (stack locals own : List Value) (o : Outside)
      (same : AgreeBelow limit locals own) where
    abbrev at : State
    at = state_at (to place) (frame_of stack own) o

    at_takes : (left' : ℕ) → take_step q classes (suc left') at
        ≡ follow (suc (to place)) (catcher q.handlers classes (to place)) left' own (moved_flow to (perform classes operation (frame_of stack own) o))
    at_takes left' =
        takes_stands q classes at (retargeted to operation) has.stands left'
        ∙ ap (follow (suc (to place)) (catcher q.handlers classes (to place)) left' own) (perform_retargeted classes to operation (frame_of stack own) o)

    -- the throw goes to a handler, or leaves the method
    raised : (v : Value) (after : Outside) (out : Option ℕ) → thrown_at r classes place after.heap v ≡ out
        → ((left' : ℕ) → take_step q classes (suc left') at ≡ enter_handler (option_map to out) left' v own after)
        → Matches (suc left) place at (enter_handler out left v locals after)
    unfolding Matches
    raised v after (Some target) is takes =
        (1, own, one_step q classes at (state_at (to target) (frame_of (v ∷ []) own) after) takes, same, omega arith, steps_by left place target 1 (omega arith))
    raised v after None is takes = record {
      count = 0;
      locals = own;
      closes = record { last = at; chain = refl; closes = takes };
      same = same;
      near = ends_at left left place 0 (omega arith);
    }

    -- by where the two frames lead
    by_flow : (f g : Flow) → perform classes operation (frame_of stack own) o ≡ g → AlikeFlows limit f g
        → Matches (suc left) place at (follow (r.next place) (thrown_at r classes place) left locals f)
    unfolding Matches
    by_flow (Falls f after) (Falls g after') is alike =
        let a = alike.0 in
        let step : Takes new at (state_at (suc (to place)) (frame_of f.stack g.locals) after) = λ left'.
        at_takes left'
        ∙ ap (λ x. follow (suc (to place)) (catcher q.handlers classes (to place)) left' own (moved_flow to x)) is
        ∙ ap (λ (s : List Value). Goes left' (state_at (suc (to place)) (frame_of s g.locals) after')) (sym a.stack)
        ∙ ap (λ (x : Outside). Goes left' (state_at (suc (to place)) (frame_of f.stack g.locals) x)) (sym alike.1) in
        let behind = skips_chain q classes (suc (to place)) (to (r.next place)) (frame_of f.stack g.locals) after has.skips in
        let whole : Chain new (suc behind.0) at (state_at (to (r.next place)) (frame_of f.stack g.locals) after) =
        (state_at (suc (to place)) (frame_of f.stack g.locals) after, step, behind.1) in
        (suc behind.0, g.locals, whole, a.locals, omega arith, steps_by left place (r.next place) (suc behind.0) (omega arith))
    by_flow (Falls f after) (Jumps u g after') is alike = absurd alike
    by_flow (Falls f after) (Leaves u after') is alike = absurd alike
    by_flow (Falls f after) (Raises u after') is alike = absurd alike
    by_flow (Falls f after) (Halts after') is alike = absurd alike
    by_flow (Jumps target f after) (Falls g after') is alike = absurd alike
    by_flow (Jumps target f after) (Jumps u g after') is alike =
        let a = alike.1 in
        let step : Takes new at (state_at (to target) (frame_of f.stack g.locals) after) = λ left'.
        at_takes left'
        ∙ ap (λ x. follow (suc (to place)) (catcher q.handlers classes (to place)) left' own (moved_flow to x)) is
        ∙ ap (λ (p : ℕ). Goes left' (state_at (to p) (frame_of g.stack g.locals) after')) (sym alike.0)
        ∙ ap (λ (s : List Value). Goes left' (state_at (to target) (frame_of s g.locals) after')) (sym a.stack)
        ∙ ap (λ (x : Outside). Goes left' (state_at (to target) (frame_of f.stack g.locals) x)) (sym alike.2) in
        (1, g.locals, one_step q classes at (state_at (to target) (frame_of f.stack g.locals) after) step, a.locals, omega arith, steps_by left place target 1 (omega arith))
    by_flow (Jumps target f after) (Leaves u after') is alike = absurd alike
    by_flow (Jumps target f after) (Raises u after') is alike = absurd alike
    by_flow (Jumps target f after) (Halts after') is alike = absurd alike
    by_flow (Leaves v after) (Falls g after') is alike = absurd alike
    by_flow (Leaves v after) (Jumps u g after') is alike = absurd alike
    by_flow (Leaves v after) (Leaves u after') is alike = record {
      count = 0;
      locals = own;
      closes = record {
        last = at;
        chain = refl;
        closes = λ left'.
            at_takes left'
            ∙ ap (λ x. follow (suc (to place)) (catcher q.handlers classes (to place)) left' own (moved_flow to x)) is
            ∙ ap (λ (x : Option Value). ends (Returned x) left' own after') (sym alike.0)
            ∙ ap (λ (x : Outside). ends (Returned v) left' own x) (sym alike.1);
      };
      same = same;
      near = ends_at left left place 0 (omega arith);
    }
    by_flow (Leaves v after) (Raises u after') is alike = absurd alike
    by_flow (Leaves v after) (Halts after') is alike = absurd alike
    by_flow (Raises v after) (Falls g after') is alike = absurd alike
    by_flow (Raises v after) (Jumps u g after') is alike = absurd alike
    by_flow (Raises v after) (Leaves u after') is alike = absurd alike
    by_flow (Raises v after) (Raises u after') is alike =
        raised v after (thrown_at r classes place after.heap v) refl
        (λ left'.
        at_takes left'
        ∙ ap (λ x. follow (suc (to place)) (catcher q.handlers classes (to place)) left' own (moved_flow to x)) is
        ∙ ap (λ (x : Value). enter_handler (catcher q.handlers classes (to place) after'.heap x) left' x own after') (sym alike.0)
        ∙ ap (λ (x : Outside). enter_handler (catcher q.handlers classes (to place) x.heap v) left' v own x) (sym alike.1)
        ∙ ap (λ (x : Option ℕ). enter_handler x left' v own after) (has.handles classes after.heap v))
    by_flow (Raises v after) (Halts after') is alike = absurd alike
    by_flow (Halts after) (Falls g after') is alike = absurd alike
    by_flow (Halts after) (Jumps u g after') is alike = absurd alike
    by_flow (Halts after) (Leaves u after') is alike = absurd alike
    by_flow (Halts after) (Raises u after') is alike = absurd alike
    by_flow (Halts after) (Halts after') is alike = record {
      least = left;
      idles = record {
        count = 0;
        last = at;
        chain = refl;
        rest = inr (record {
          operation = retargeted to operation;
          stands = has.stands;
          outside = after';
          halts = perform_retargeted classes to operation (frame_of stack own) o ∙ ap (moved_flow to) is;
          same = ap (λ (x : Outside). x.events) (sym alike);
        });
      };
      near = idles_at left place;
    }

    matches_operation : Matches (suc left) place at (follow (r.next place) (thrown_at r classes place) left locals (perform classes operation (frame_of stack locals) o))
    matches_operation =
        by_flow (perform classes operation (frame_of stack locals) o) (perform classes operation (frame_of stack own) o) refl
        (perform_alike classes limit operation stack locals own o has.uses same)

  -- ---- a block

  caught_at : (left bound place : ℕ) (t : State) (v : Value) (locals own : List Value) (o : Outside) (count : ℕ) (out : Option ℕ) → bound ≤ left + count → left ≤ bound
      → AgreeBelow limit locals own → IsCaught q classes count t (option_map to out) v own o → Matches (suc bound) place t (enter_handler out left v locals o)
  unfolding Matches
  caught_at left bound place t v locals own o count (Some target) near spends same arrives =
      (count, own, arrives.1, same, omega (arith, spends), caught_by left bound place target count near arrives.0)
  caught_at left bound place t v locals own o count None near spends same arrives = record {
    count = count;
    locals = own;
    closes = arrives;
    same = same;
    near = ends_at left bound place count near;
  }

  matches_meant : (place end bound : ℕ) (t : State) (meant : Meant) → Skips q end (to (r.next place)) → rank (r.next place) < rank place
      → EndsAs q classes end (moved_outer r to classes place) limit bound t meant
      → Matches (suc bound) place t (follow_meant (r.next place) (thrown_at r classes place) meant)
  unfolding Matches
  matches_meant place end bound t (Exits (Completes stack) left locals o) skips falls h =
      let behind = skips_chain q classes end (to (r.next place)) (frame_of stack h.locals) o skips in
      let whole = chain_then new h.count behind.0 t (state_at end (frame_of stack h.locals) o) (state_at (to (r.next place)) (frame_of stack h.locals) o) h.arrives behind.1 in
      let near = h.near in
      let spends = h.spends in
      (h.count + behind.0, h.locals, whole, h.same, omega (arith, spends), goes_by left bound place (r.next place) (h.count + behind.0) (omega (arith, near)) falls)
  matches_meant place end bound t (Exits (Throws v) left locals o) skips falls h =
      caught_at left bound place t v locals h.locals o h.count (thrown_at r classes place o.heap v) h.near h.spends h.same h.arrives
  matches_meant place end bound t (Exits (Returns result) left locals o) skips falls h = record {
    count = h.count;
    locals = h.locals;
    closes = h.arrives;
    same = h.same;
    near = ends_at left bound place h.count h.near;
  }
  matches_meant place end bound t (Stays left locals o) skips falls h = record {
    least = bound;
    idles = h;
    near = idles_at bound place;
  }

  -- ---- a place

  module _ (ok : ℕ → Frame → Bool) where
    matches_at : (left place : ℕ) (stack locals own : List Value) (o : Outside) (doing : Option Doing) → HasPlace r q to limit place (ok place) rank doing
        → IsTrue (ok place (frame_of stack locals)) → AgreeBelow limit locals own
        → Matches (suc left) place (state_at (to place) (frame_of stack own) o)
        (do_at classes (r.next place) (thrown_at r classes place) left doing (state_at place (frame_of stack locals) o))
    matches_at left place stack locals own o (Some (Performs operation)) has fine same = matches_operation place operation has left stack locals own o same
    matches_at left place stack locals own o (Some (Means meaning)) has fine same =
        matches_meant place (to place + length has.block.code) left (state_at (to place) (frame_of stack own) o) (meaning classes left (frame_of stack locals) o) has.skips has.falls
        (has.means.by q classes (to place) (moved_outer r to classes place) (has.holds classes) left stack locals own o fine same)
    matches_at left place stack locals own o None has fine same = absurd (has (frame_of stack locals) fine)

-- ---- the run

module _ (r : Reference) (q : Program) (to : ℕ → ℕ) (limit : ℕ) (ok : ℕ → Frame → Bool) (rank : ℕ → ℕ) (most : ℕ) (embeds : Embeds r q to limit ok rank most) (classes : Classes) where
  abbrev old : Step State
  old = reference_step r classes

  -- what the run of so many turns comes to, the machine comes to
  Followed : ℕ → State → List Value → Outcome → Type 0
  Followed bound s own o = ComesBy q classes limit most (suc (rank s.place)) bound (state_at (to s.place) (frame_of s.frame.stack own) s.outside) o o.ending

  by_progress : (turns bound : ℕ) (s : State) (own : List Value) (p : Progress State) → take_reference r classes bound s ≡ p → bound ≤ suc turns
      → IsTrue (ok s.place s.frame)
      → Matches r q to limit rank most embeds.ranks classes bound s.place (state_at (to s.place) (frame_of s.frame.stack own) s.outside) p
      → ((left : ℕ) (t : State) (own' : List Value) → left ≤ turns → IsTrue (ok t.place t.frame) → AgreeBelow limit t.frame.locals own' → Followed left t own' (iterate old turns left t))
      → Followed bound s own (advance (iterate old turns) p)
  unfolding Matches Followed
  by_progress turns bound s own (Goes left t) is le fine m next =
      let less = m.4 in
      comes_behind q classes limit most (suc (rank s.place)) (suc (rank t.place)) bound left m.0 (state_at (to s.place) (frame_of s.frame.stack own) s.outside)
      (state_at (to t.place) (frame_of t.frame.stack m.1) t.outside) (iterate old turns left t) (iterate old turns left t).ending m.2 m.5
      (next left t m.1 (omega (arith, less, le)) (embeds.kept classes bound left s t fine is) m.3)
  by_progress turns bound s own (Stops o) is le fine m next = m

  nothing : (s : State) (own : List Value) (bound left : ℕ) → bound ≤ 0
      → Followed bound s own (record { ending = None; left = left; locals = s.frame.locals; outside = s.outside })
  unfolding Followed
  nothing s own bound left le = record {
    least = 0;
    idles = record { count = 0; last = state_at (to s.place) (frame_of s.frame.stack own) s.outside; chain = refl; rest = inl (omega arith, refl) };
    near = omega (arith, le);
  }

  followed : (turns bound : ℕ) (s : State) (own : List Value) → bound ≤ turns → IsTrue (ok s.place s.frame) → AgreeBelow limit s.frame.locals own
      → Followed bound s own (iterate old turns bound s)
  followed zero bound s own le fine same = nothing s own bound bound le
  followed (suc turns) zero s own le fine same = nothing s own 0 0 (omega arith)
  followed (suc turns) (suc left) s own le fine same =
      by_progress turns (suc left) s own (take_reference r classes (suc left) s) refl le fine
      (matches_at r q to limit rank most embeds.ranks classes ok left s.place s.frame.stack s.frame.locals own s.outside (r.doing s.place) (embeds.each s.place) fine same)
      (λ left' t own' le' fine' same'. followed turns left' t own' le' fine' same')

  comes_from : (bound : ℕ) (s : State) (own : List Value) → IsTrue (ok s.place s.frame) → AgreeBelow limit s.frame.locals own
      → Followed bound s own (iterate old bound bound s)
  comes_from bound s own fine same = followed bound bound s own (omega arith) fine same

  pub embeds_does : Does q classes limit most (suc most) (λ locals. ok 0 (frame_of [] locals)) (body_of r classes)
  unfolding Followed
  embeds_does = record {
    does = λ bound locals own o fine same.
        let begins = skips_chain q classes 0 (to 0) (frame_of [] own) o embeds.begins in
        let start : State = state_at 0 (frame_of [] locals) o in
        let small = embeds.ranks 0 in
        comes_behind q classes limit most (suc most) (suc (rank 0)) bound bound begins.0 (state_at 0 (frame_of [] own) o) (state_at (to 0) (frame_of [] own) o)
        (iterate old bound bound start) (iterate old bound bound start).ending begins.1 (omega (arith, small)) (comes_from bound start own fine same);
  }
