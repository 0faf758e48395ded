-- Small blocks do what is meant.
use Rattle.std.proofs.Common.{◌≡◌, ℕ, suc, ◌+◌, List, [], ◌∷◌, Option, Some, None, Bool, refl, ap, ◌∙◌, inr, arith}
use Rattle.std.specs.Prelude.{slice_get}
use Rattle.je_machine.specs.Value.{Value}
use Rattle.je_machine.specs.Classes.{Classes}
use Rattle.je_machine.specs.Outside.{Outside}
use Rattle.je_machine.specs.Operation.{Basic, Do, Program}
use Rattle.je_machine.specs.Frame.{Frame, Stacked, Stands, Breaks, Stalls, perform_basic, frame_of, flow_of}
use Rattle.je_machine.specs.Step.{Goes}
use Rattle.je_machine.specs.Machine.{State, Outer, state_at, catcher, enter_handler, follow, take_step}
use Rattle.je_machine.specs.Slots.{AgreeBelow}
use Rattle.je_splice.specs.Block.{Holds}
use Rattle.je_splice.specs.Means.{IsCaught, EndsAs, BlockMeans}
use Rattle.je_splice.specs.Sample.{no_code, nothing, one_instruction, meant_by, proceeding}
use Rattle.je_splice.proofs.EmbedsLemmas.{takes_stands, one_step}

pub nothing_means : (limit : ℕ) (ok : Frame → Bool) → BlockMeans limit ok no_code nothing
nothing_means limit ok = record {
  by = λ q classes at outer holds bound stack locals own outside fine same.
      let none : at ≡ at + 0 = omega arith in
      record {
        count = 0;
        locals = own;
        spends = omega arith;
        near = omega arith;
        same = same;
        arrives = ap (λ (place : ℕ). state_at place (frame_of stack own) outside) none;
      };
}

-- the step that throws is the last of the method where none catches
abbrev out_count : Option ℕ → ℕ
out_count None = 0
out_count (Some target) = 1

module _ (limit : ℕ) (basic : Basic) (q : Program) (classes : Classes) (at : ℕ) (outer : Outer) (holds : Holds q classes at (one_instruction basic) outer)
    (bound : ℕ) (stack locals own : List Value) (outside : Outside) (same : AgreeBelow limit locals own) where
  abbrev t : State
  t = state_at at (frame_of stack own) outside

  there : slice_get q.operations at ≡ Some (Do basic)
  there =
      let none : at ≡ at + 0 = omega arith in
      ap (slice_get q.operations) none ∙ holds.code 0 (Do basic) refl

  takes : (left : ℕ) → take_step q classes (suc left) t ≡ follow (suc at) (catcher q.handlers classes at) left own (flow_of own (perform_basic classes basic stack outside))
  takes left = takes_stands q classes t (Do basic) there left

  caught : (v : Value) (after : Outside) (out : Option ℕ) → ((left : ℕ) → take_step q classes (suc left) t ≡ enter_handler out left v own after)
      → IsCaught q classes (out_count out) t out v own after
  caught v after (Some target) step = (omega arith, one_step q classes t (state_at target (frame_of (v ∷ []) own) after) step)
  caught v after None step = record { last = t; chain = refl; closes = step }

  by_stacked : (s : Stacked) → perform_basic classes basic stack outside ≡ s → EndsAs q classes (at + 1) outer limit bound t (meant_by bound locals s)
  by_stacked (Stands after o) e =
      let one : suc at ≡ at + 1 = omega arith in
      record {
        count = 1;
        locals = own;
        spends = omega arith;
        near = omega arith;
        same = same;
        arrives =
            one_step q classes t (state_at (at + 1) (frame_of after own) o)
            (λ left.
            takes left
            ∙ ap (λ s. follow (suc at) (catcher q.handlers classes at) left own (flow_of own s)) e
            ∙ ap (λ (place : ℕ). Goes left (state_at place (frame_of after own) o)) one);
      }
  by_stacked (Breaks v o) e =
      let none : at ≡ at + 0 = omega arith in
      let goes : catcher q.handlers classes at o.heap v ≡ outer o.heap v =
      ap (λ (n : ℕ). catcher q.handlers classes n o.heap v) none ∙ holds.handles 0 o.heap v (omega arith) in
      record {
        count = out_count (outer o.heap v);
        locals = own;
        spends = omega arith;
        near = omega arith;
        same = same;
        arrives =
            caught v o (outer o.heap v)
            (λ left.
            takes left
            ∙ ap (λ s. follow (suc at) (catcher q.handlers classes at) left own (flow_of own s)) e
            ∙ ap (λ out. enter_handler out left v own o) goes);
      }
  by_stacked (Stalls o) e = record {
    count = 0;
    last = t;
    chain = refl;
    rest = inr (record {
      operation = Do basic;
      stands = there;
      outside = o;
      halts = ap (flow_of own) e;
      same = refl;
    });
  }

pub proceed_means : (limit : ℕ) (ok : Frame → Bool) (basic : Basic) → BlockMeans limit ok (one_instruction basic) (proceeding basic)
proceed_means limit ok basic = record {
  by = λ q classes at outer holds bound stack locals own outside fine same.
      by_stacked limit basic q classes at outer holds bound stack locals own outside same (perform_basic classes basic stack outside) refl;
}
