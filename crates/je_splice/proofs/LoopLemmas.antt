-- A method with a loop and two handlers meets all premises.
use Rattle.std.proofs.Common.{◌≡◌, ℕ, zero, suc, List, [], ◌∷◌, length, Some, None, Bool, true, false, refl, ap, subst, ◌∙◌, arith}
use Rattle.std.specs.Prelude.{IsTrue, slice_get}
use Rattle.std.specs.List.{AllByRecursion}
use Rattle.std.proofs.lemmas.Bool.{ltb-true}
use Rattle.je_machine.specs.Value.{Value}
use Rattle.je_machine.specs.Heap.{Heap}
use Rattle.je_machine.specs.Classes.{Classes}
use Rattle.je_machine.specs.Outside.{Answer}
use Rattle.je_machine.specs.Operation.{Nop, Drop, Act, Operation, Return, Handler}
use Rattle.je_machine.specs.Frame.{Frame}
use Rattle.je_machine.specs.Machine.{enter, run_of}
use Rattle.je_machine.specs.View.{AgreeingRuns}
use Rattle.je_splice.specs.Reference.{body_of}
use Rattle.je_splice.specs.Layout.{operation_codes, Item, Keeps, next_place}
use Rattle.je_splice.specs.Laid.{Fragment, FitsItem, Fits, inside, may_lead_on, HasTargetsIn, AreClosed}
use Rattle.je_splice.specs.Marks.{marked_items, marked_handlers, marked}
use Rattle.je_splice.specs.Loop.{call, loop_method, loop_marks, spliced_loop}
use Rattle.je_splice.proofs.BlockLemmas.{nothing_means, proceed_means}
use Rattle.je_splice.proofs.InsideLemmas.{stays_inside}
use Rattle.je_splice.proofs.SplicedLemmas.{spliced_agrees}

pub at_each : {A : Type 0} (P : A → Type 0) (xs : List A) → AllByRecursion P xs → (i : ℕ) (x : A) → slice_get xs i ≡ Some x → P x
at_each P [] each i x is = absurd cc
at_each P (y ∷ xs) each zero x is = let same : y ≡ x = cc in subst P same each.0
at_each P (y ∷ xs) each (suc i) x is = at_each P xs each.1 i x is

abbrev items : List (Item Operation Fragment)
items = marked_items operation_codes loop_marks loop_method.operations

abbrev handlers : List Handler
handlers = marked_handlers operation_codes loop_marks loop_method.handlers

-- each item fits, whatever is asked of frames
fit : (ok : Frame → Bool) → AllByRecursion (FitsItem 1 ok) items
fit ok = (
  (proceed_means 1 ok Nop, tt),
  (
    omega arith,
    (
      tt,
      (
        (proceed_means 1 ok (Act call), tt),
        ((nothing_means 1 ok, tt), ((proceed_means 1 ok (Drop 1), tt), ((proceed_means 1 ok Nop, tt), (omega arith, (tt, (tt, (tt, (tt, tt)))))))),
      ),
    ),
  ),
)

targets_in : AllByRecursion (HasTargetsIn (inside items)) items
targets_in = (tt, (tt, (refl, (tt, (tt, (tt, (tt, (tt, (refl, (tt, (tt, (tt, tt))))))))))))

pub no_return : (item : Item Operation Fragment) → Some (Keeps 0 (Return None)) ≡ Some item → IsTrue (may_lead_on item) → ⊥
no_return item is h =
    let same : Keeps 0 (Return None) ≡ item = cc in
    let wrong : false ≡ true = ap may_lead_on same ∙ h in
    absurd cc

next_in : (place : ℕ) (item : Item Operation Fragment) → slice_get items place ≡ Some item → IsTrue (may_lead_on item) → IsTrue (inside items (next_place items place))
next_in zero item is h = refl
next_in (suc zero) item is h = refl
next_in (suc (suc zero)) item is h = refl
next_in (suc (suc (suc zero))) item is h = refl
next_in (suc (suc (suc (suc zero)))) item is h = refl
next_in (suc (suc (suc (suc (suc zero))))) item is h = refl
next_in (suc (suc (suc (suc (suc (suc zero)))))) item is h = refl
next_in (suc (suc (suc (suc (suc (suc (suc zero))))))) item is h = refl
next_in (suc (suc (suc (suc (suc (suc (suc (suc zero)))))))) item is h = refl
next_in (suc (suc (suc (suc (suc (suc (suc (suc (suc zero))))))))) item is h = refl
next_in (suc (suc (suc (suc (suc (suc (suc (suc (suc (suc zero)))))))))) item is h = refl
next_in (suc (suc (suc (suc (suc (suc (suc (suc (suc (suc (suc zero))))))))))) item is h = absurd (no_return item is h)
next_in (suc (suc (suc (suc (suc (suc (suc (suc (suc (suc (suc (suc place)))))))))))) item is h = absurd cc

closed : AreClosed items handlers
closed = record {
  targets = at_each (HasTargetsIn (inside items)) items targets_in;
  next = next_in;
  caught = (refl, (refl, tt));
}

pub loop_fits : Fits 1 (λ place frame. inside items place) loop_method.parameters items handlers
loop_fits = record {
  each = λ place item is. at_each (FitsItem 1 (λ frame. inside items place)) items (fit (λ frame. inside items place)) place item is;
  inside = λ place frame h. ltb-true place (length items) h;
  kept = stays_inside loop_method.parameters items handlers closed;
}

pub loop_agrees : (classes : Classes) (arguments : List Value) (heap : Heap) (answers : List Answer)
    → AgreeingRuns (λ n. body_of (marked loop_method loop_marks) classes n (enter loop_method.parameters arguments) (record { heap = heap; events = []; answers = answers }))
    (run_of spliced_loop classes arguments heap answers)
loop_agrees classes arguments heap answers =
    spliced_agrees 1 (λ place frame. inside items place) loop_method loop_marks loop_fits classes arguments heap answers refl
