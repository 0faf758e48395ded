-- Small pieces keep to shapes.
use Rattle.std.proofs.Common.{◌≡◌, ℕ, zero, suc, ◌<◌, List, [], ◌∷◌, Option, Some, None, refl, sym, subst, arith}
use Rattle.std.specs.Prelude.{IsTrue, slice_get}
use Rattle.je_machine.specs.Value.{Kind, Value}
use Rattle.je_machine.specs.Heap.{Heap}
use Rattle.je_machine.specs.Classes.{Classes}
use Rattle.je_machine.specs.Outside.{Outside}
use Rattle.je_machine.specs.Operation.{Basic, Operation, Do}
use Rattle.je_machine.specs.Frame.{Frame, Stacked, Stands, Breaks, Stalls, flow_of, perform_basic, perform}
use Rattle.je_machine.specs.Machine.{Outer, catcher}
use Rattle.je_shape.specs.Shape.{Known, Nothing}
use Rattle.je_shape.specs.Least.{Assignment}
use Rattle.je_fit.specs.Fits.{fits_known}
use Rattle.je_splice.specs.Reference.{Performs, Means}
use Rattle.je_splice.specs.Sample.{no_code, one_instruction, nothing, meant_by, proceeding}
use Rattle.je_stay.specs.Keeping.{PerformKeeps, MeantKeeps, DoingKeeps}
use Rattle.je_stay.specs.Inner.{OwnThrowKeeps, InnerKeeps, BlockKeeps, one_known, two_known}

stacked_keeps : (kind : Option (Option Kind)) (x : Assignment) (next : Known) (outer : Outer) (bound : ℕ) (locals : List Value) (s : Stacked)
    → PerformKeeps kind x next outer locals (flow_of locals s) → MeantKeeps kind x next outer (meant_by bound locals s)
stacked_keeps kind x next outer bound locals (Stands stack o) h = h
stacked_keeps kind x next outer bound locals (Breaks v o) h = h
stacked_keeps kind x next outer bound locals (Stalls o) h = tt

pub proceeding_keeps : (kind : Option (Option Kind)) (x : Assignment) (before next : Known) (outer : Classes → Outer) (basic : Basic)
    → DoingKeeps kind x before next outer (Performs (Do basic)) → DoingKeeps kind x before next outer (Means (proceeding basic))
proceeding_keeps kind x before next outer basic keeps =
    λ classes bound frame outside fit.
    stacked_keeps kind x next (outer classes) bound frame.locals (perform_basic classes basic frame.stack outside) (keeps classes frame outside fit)

pub nothing_keeps_all : (kind : Option (Option Kind)) (x : Assignment) (before next : Known) (outer : Classes → Outer)
    → ((frame : Frame) → IsTrue (fits_known before frame) → IsTrue (fits_known next frame)) → DoingKeeps kind x before next outer (Means nothing)
nothing_keeps_all kind x before next outer gives = λ classes bound frame outside fit. gives frame fit

-- ---- their blocks

stacked_inner : (kind : Option (Option Kind)) (x inner : Assignment) (next : Known) (outer own : Outer) (bound : ℕ) (locals : List Value) (s : Stacked) → ((heap : Heap) (v : Value) → own heap v ≡ None)
    → MeantKeeps kind x next outer (meant_by bound locals s) → InnerKeeps kind x inner next own outer locals (flow_of locals s)
stacked_inner kind x inner next outer own bound locals (Stands stack o) none h = h
stacked_inner kind x inner next outer own bound locals (Breaks v o) none h =
    subst (λ (t : Option ℕ). OwnThrowKeeps x inner t (outer o.heap v) v locals) (sym (none o.heap v)) h
stacked_inner kind x inner next outer own bound locals (Stalls o) none h = tt

basic_same : (b : Basic) (op : Operation) → Some (Do b) ≡ Some op → Do b ≡ op
basic_same b op e = cc

pub alone_keeps : (kind : Option (Option Kind)) (x : Assignment) (place next : ℕ) (outer : Classes → Outer) (basic : Basic)
    → DoingKeeps kind x (x place) (x next) outer (Means (proceeding basic)) → BlockKeeps kind x (two_known (x place) (x next)) place next outer (one_instruction basic)
alone_keeps kind x place next outer basic keeps =
    record {
      begins = λ frame fit. fit;
      each = each;
      ends = λ frame fit. fit;
      behind = behind;
      within = tt;
    }
  where
    each : (index : ℕ) (op : Operation) → slice_get (Do basic ∷ []) index ≡ Some op → (classes : Classes) (frame : Frame) (outside : Outside)
        → IsTrue (fits_known (two_known (x place) (x next) index) frame)
        → InnerKeeps kind x (two_known (x place) (x next)) (two_known (x place) (x next) (suc index)) (catcher [] classes index) (outer classes) frame.locals (perform classes op frame outside)
    each zero op is classes frame outside fit =
        subst (λ o. InnerKeeps kind x (two_known (x place) (x next)) (x next) (catcher [] classes 0) (outer classes) frame.locals (perform classes o frame outside)) (basic_same basic op is)
        (stacked_inner kind x (two_known (x place) (x next)) (x next) (outer classes) (catcher [] classes 0) 0 frame.locals (perform_basic classes basic frame.stack outside) (λ heap v. refl)
        (keeps classes 0 frame outside fit))
    each (suc index) op is classes frame outside fit = absurd cc

    behind : (index : ℕ) → 1 < index → two_known (x place) (x next) index ≡ Nothing
    behind zero h = absurd (omega (arith, h))
    behind (suc zero) h = absurd (omega (arith, h))
    behind (suc (suc index)) h = refl

pub empty_keeps : (kind : Option (Option Kind)) (x : Assignment) (place next : ℕ) (outer : Classes → Outer)
    → ((frame : Frame) → IsTrue (fits_known (x place) frame) → IsTrue (fits_known (x next) frame)) → BlockKeeps kind x (one_known (x place)) place next outer no_code
empty_keeps kind x place next outer gives =
    record {
      begins = λ frame fit. fit;
      each = λ index op is classes frame outside fit. absurd cc;
      ends = gives;
      behind = behind;
      within = tt;
    }
  where
    behind : (index : ℕ) → 0 < index → one_known (x place) index ≡ Nothing
    behind zero h = absurd (omega (arith, h))
    behind (suc index) h = refl
