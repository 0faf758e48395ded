-- Runs of programs that keep to shapes, and items whose blocks do.
use Rattle.std.proofs.Common.{◌≡◌, ℕ, zero, suc, ◌+◌, ◌<◌, ◌≤◌, ◌⊎◌, inl, inr, List, length, Option, Some, None, refl, sym, ap, subst, ◌∙◌, arith}
use Rattle.std.specs.Prelude.{IsTrue, option_map, slice_get}
use Rattle.std.proofs.lemmas.Option.{slice_get_past}
use Rattle.je_machine.specs.Value.{Kind}
use Rattle.je_machine.specs.Classes.{Classes}
use Rattle.je_machine.specs.Operation.{Operation, Handler, Program}
use Rattle.je_machine.specs.Frame.{perform}
use Rattle.je_machine.specs.Step.{Outcome, Progress, Goes, Stops, Chain, advance, iterate}
use Rattle.je_machine.specs.Machine.{State, Outer, catcher, perform_at, take_step, machine_step}
use Rattle.je_shape.specs.Least.{Assignment}
use Rattle.je_fit.specs.Fits.{fits_known}
use Rattle.je_splice.specs.Block.{Block}
use Rattle.je_splice.specs.Reference.{Performs}
use Rattle.je_splice.specs.Layout.{Item, Keeps, Puts, next_by}
use Rattle.je_splice.specs.Laid.{Fragment, doing_of, reference_of, with_block, blocks_of}
use Rattle.je_splice.proofs.LayoutLemmas.{get_mapped, mapped_length}
use Rattle.je_stay.specs.Keeping.{MayComeTo, DoingKeeps, IsShaped}
use Rattle.je_stay.specs.Inner.{BlockKeeps, CodeKeeps, LaidKeeps, ProgramKeeps}
use Rattle.je_stay.proofs.ReferenceLemmas.{less_or_not, nothing_fits, StepKeeps, follow_keeps}

-- ---- runs

module _ (kind : Option (Option Kind)) (x : Assignment) (q : Program) (keeps : ProgramKeeps kind x q) where
  perform_keeps : (classes : Classes) (left : ℕ) (s : State) (found : Option Operation) → slice_get q.operations s.place ≡ found → IsTrue (fits_known (x s.place) s.frame)
      → StepKeeps kind x (perform_at classes (suc s.place) (catcher q.handlers classes s.place) left found s)
  perform_keeps classes left s None e fit = tt
  perform_keeps classes left s (Some op) e fit =
      follow_keeps kind x (suc s.place) (catcher q.handlers classes s.place) left s.frame.locals (perform classes op s.frame s.outside)
      (keeps.each s.place op e classes s.frame s.outside fit)

  step_keeps : (classes : Classes) (bound : ℕ) (s : State) → IsTrue (fits_known (x s.place) s.frame) → StepKeeps kind x (take_step q classes bound s)
  step_keeps classes zero s fit = tt
  step_keeps classes (suc left) s fit = perform_keeps classes left s (slice_get q.operations s.place) refl fit

  pub chain_keeps : (classes : Classes) (count : ℕ) (s t : State) → IsTrue (fits_known (x s.place) s.frame) → Chain (machine_step q classes) count s t → IsTrue (fits_known (x t.place) t.frame)
  chain_keeps classes zero s t fit e = subst (λ (u : State). IsTrue (fits_known (x u.place) u.frame)) e fit
  chain_keeps classes (suc count) s t fit c = chain_keeps classes count c.0 t (subst (StepKeeps kind x) (c.1 0) (step_keeps classes 1 s fit)) c.2

  inside_by : (s : State) → IsTrue (fits_known (x s.place) s.frame) → (s.place < length q.operations) ⊎ (length q.operations ≤ s.place) → s.place < length q.operations
  inside_by s fit (inl less) = less
  inside_by s fit (inr le) = absurd (nothing_fits (x s.place) s.frame (keeps.behind s.place le) fit)

  pub program_inside : (s : State) → IsTrue (fits_known (x s.place) s.frame) → s.place < length q.operations
  program_inside s fit = inside_by s fit (less_or_not s.place (length q.operations))

  on_keeps : (next : ℕ → State → Outcome) (p : Progress State) → ((left : ℕ) (s : State) → IsTrue (fits_known (x s.place) s.frame) → MayComeTo kind (next left s)) → StepKeeps kind x p
      → MayComeTo kind (advance next p)
  on_keeps next (Goes left s) on h = on left s h
  on_keeps next (Stops o) on h = h

  pub program_ends : (classes : Classes) (turns bound : ℕ) (s : State) → IsTrue (fits_known (x s.place) s.frame) → MayComeTo kind (iterate (machine_step q classes) turns bound s)
  program_ends classes zero bound s fit = tt
  program_ends classes (suc turns) bound s fit =
      on_keeps (iterate (machine_step q classes) turns) (take_step q classes bound s) (λ left t k. program_ends classes turns left t k) (step_keeps classes bound s fit)

-- ---- items

module _ (kind : Option (Option Kind)) (x : Assignment) (inner : ℕ → Assignment) (parameters : List Kind) (items : List (Item Operation Fragment)) (handlers : List Handler)
    (shaped : IsShaped kind x (reference_of parameters items handlers))
    (blocks : (place over : ℕ) (fragment : Fragment) → slice_get items place ≡ Some (Puts over fragment)
    → BlockKeeps kind x (inner place) place (suc place + over) (λ classes. catcher handlers classes place) fragment.block) where
  abbrev thrown : ℕ → Classes → Outer
  thrown place classes = catcher handlers classes place

  item_keeps : (place : ℕ) (item : Item Operation Fragment) → slice_get items place ≡ Some item → CodeKeeps kind x (inner place) place (thrown place) (with_block item)
  item_keeps place (Keeps over op) is =
      subst (λ (n : ℕ). DoingKeeps kind x (x place) (x n) (thrown place) (Performs op)) (ap (next_by place) is)
      (shaped.each place (Performs op) (ap (option_map doing_of) is))
  item_keeps place (Puts over fragment) is = blocks place over fragment is

  mapped_keeps : (place : ℕ) (item : Item Operation Block) (found : Option (Item Operation Fragment)) → slice_get items place ≡ found → option_map with_block found ≡ Some item
      → CodeKeeps kind x (inner place) place (thrown place) item
  mapped_keeps place item None is e = absurd cc
  mapped_keeps place item (Some own) is e =
      let same : with_block own ≡ item = cc in
      subst (CodeKeeps kind x (inner place) place (thrown place)) same (item_keeps place own is)

  pub items_laid : LaidKeeps kind x inner (blocks_of items) handlers
  items_laid =
      record {
        each = λ place item is. mapped_keeps place item (slice_get items place) refl (sym (get_mapped with_block items place) ∙ is);
        behind = λ place le.
            let size = mapped_length with_block items in
            shaped.inside place (ap (option_map doing_of) (slice_get_past items place (omega (arith, le, size))));
      }
