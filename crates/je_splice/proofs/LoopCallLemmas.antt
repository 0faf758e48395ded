-- The calls of the method with a loop and two handlers give way, and all premises are met.
use Rattle.std.proofs.Common.{◌≡◌, ℕ, zero, suc, List, [], length, Option, Some, None, Bool, true, option_map, refl, subst, arith}
use Rattle.std.specs.Prelude.{IsTrue, slice_get}
use Rattle.std.specs.List.{AllByRecursion, AllZip}
use Rattle.std.proofs.lemmas.Bool.{ltb-true}
use Rattle.je_machine.specs.Value.{Value}
use Rattle.je_machine.specs.Condition.{Zero, Equals}
use Rattle.je_machine.specs.Heap.{Heap}
use Rattle.je_machine.specs.Classes.{Classes}
use Rattle.je_machine.specs.Outside.{Answer}
use Rattle.je_machine.specs.Operation.{Operation, Branch, Handler}
use Rattle.je_machine.specs.Frame.{Frame}
use Rattle.je_machine.specs.Machine.{enter, run_of}
use Rattle.je_machine.specs.View.{AgreeingRuns}
use Rattle.je_instr.specs.declared.instr.Instr.TheVariants as instr
use Rattle.je_instr.specs.declared.opcodes.TheConstants as op
use Rattle.je_instr.specs.Opcodes.{conditions}
use Rattle.je_instr.specs.Resolves.{Resolves}
use Rattle.je_splice.specs.Laid.{Fragment, FitsItem, Fits, inside, may_lead_on, HasTargetsIn, AreClosed}
use Rattle.je_splice.specs.Layout.{operation_codes, Item, next_place}
use Rattle.je_splice.specs.Loop.{call, loop_method}
use Rattle.je_splice.specs.LoopCode.{loop_pool, loop_code, loop_table, call_places, call_marks, call_pieces, call_piece_marks, replaced_code, replaced_table, replaced_loop}
use Rattle.je_splice.specs.Marks.{marked_items, replaced}
use Rattle.je_splice.specs.Put.{StandsInstead}
use Rattle.je_splice.specs.Reference.{body_of}
use Rattle.je_splice.specs.Resolved.{AreProgram, IsPlacedAs, GivesWay}
use Rattle.je_splice.proofs.GiveWayLemmas.{replaced_agrees}
use Rattle.je_splice.proofs.InsideLemmas.{stays_inside}
use Rattle.je_splice.proofs.LoopLemmas.{at_each, no_return}
use Rattle.je_splice.proofs.LoopCodeLemmas.{call_is, pop_is, return_is, load_is, handlers_are, loop_is}
use Rattle.je_splice.proofs.PieceLemmas.{empty_means, itself_means}
use Rattle.je_splice.proofs.PutLemmas.{marks_put}
use Rattle.je_splice.proofs.ReplacedLemmas.{stand_instead}

-- ---- the code

branch_is : Resolves loop_pool (instr.Branch op.IFEQ 5) (Branch (Zero Equals) 5)
unfolding conditions
branch_is = record { allowed = refl; becomes = refl }

pub replaced_is : AreProgram loop_pool replaced_code replaced_table replaced_loop
replaced_is = record {
  operations = (
    load_is,
    (branch_is, (call_is, (record { allowed = tt; becomes = refl }, (record { allowed = tt; becomes = refl }, (return_is, (pop_is, (return_is, tt))))))),
  );
  handlers = (
    record { start = refl; end = refl; target = refl; catches = refl },
    (record { start = refl; end = refl; target = refl; catches = refl }, tt),
  );
}

placed : AllZip (IsPlacedAs loop_pool (λ piece. piece) (λ fragment. fragment) (λ piece. true) (λ fragment. true)) call_pieces call_places
placed = (
  record { at = refl; removed = refl; jumps = refl; piece = (record { code = (call_is, tt); handlers = tt }, refl) },
  (record { at = refl; removed = refl; jumps = refl; piece = (record { code = tt; handlers = tt }, refl) }, tt),
)

alone : AllByRecursion StandsInstead call_places
alone = (record { removed = refl; jumps = refl }, (record { removed = refl; jumps = refl }, tt))

pub gives_way : GivesWay loop_pool (λ piece. piece) (λ fragment. fragment) call_piece_marks loop_code loop_table call_marks loop_method
gives_way = record {
  program = loop_is;
  marks =
      marks_put loop_pool (λ piece. piece) (λ fragment. fragment) (λ piece. true) (λ fragment. true) loop_table loop_method.handlers handlers_are call_pieces call_places placed [] [] tt;
  only = stand_instead (λ (h : Handler). h.target) (λ fragment. true) call_places alone;
  no_entry = λ h. refl;
}

-- ---- the premises

abbrev items : List (Item Operation Fragment)
items = marked_items operation_codes call_marks loop_method.operations

fit : (ok : Frame → Bool) → AllByRecursion (FitsItem 1 ok) items
fit ok = (
  omega arith,
  (tt, ((itself_means 1 ok call refl, tt), ((empty_means 1 ok call refl refl, tt), (omega arith, (tt, (tt, (tt, (tt, tt)))))))),
)

targets_in : AllByRecursion (HasTargetsIn (inside items)) items
targets_in = (tt, (refl, (tt, (tt, (tt, (refl, (tt, (tt, (tt, tt)))))))))

next_in : (place : ℕ) (item : Item Operation Fragment) → slice_get items place ≡ Some item → IsTrue (may_lead_on item) → IsTrue (inside items (next_place items place))
next_in zero item is h = refl
next_in (suc zero) item is h = refl
next_in (suc (suc zero)) item is h = refl
next_in (suc (suc (suc zero))) item is h = refl
next_in (suc (suc (suc (suc zero)))) item is h = refl
next_in (suc (suc (suc (suc (suc zero))))) item is h = refl
next_in (suc (suc (suc (suc (suc (suc zero)))))) item is h = refl
next_in (suc (suc (suc (suc (suc (suc (suc zero))))))) item is h = refl
next_in (suc (suc (suc (suc (suc (suc (suc (suc zero)))))))) item is h = absurd (no_return item is h)
next_in (suc (suc (suc (suc (suc (suc (suc (suc (suc place))))))))) item is h = absurd cc

closed : AreClosed items loop_method.handlers
closed = record { targets = at_each (HasTargetsIn (inside items)) items targets_in; next = next_in; caught = (refl, (refl, tt)) }

pub calls_fit : Fits 1 (λ place frame. inside items place) loop_method.parameters items loop_method.handlers
calls_fit = record {
  each = λ place item is. at_each (FitsItem 1 (λ frame. inside items place)) items (fit (λ frame. inside items place)) place item is;
  inside = λ place frame h. ltb-true place (length items) h;
  kept = stays_inside loop_method.parameters items loop_method.handlers closed;
}

same_option : (o : Option Fragment) → option_map (λ (fragment : Fragment). fragment) o ≡ o
same_option None = refl
same_option (Some fragment) = refl

same_instead : (λ (i : ℕ). option_map (λ (fragment : Fragment). fragment) (call_marks.instead i)) ≡ call_marks.instead
same_instead = λ k. λ i. same_option (call_marks.instead i) k

pub calls_agree : (classes : Classes) (arguments : List Value) (heap : Heap) (answers : List Answer)
    → AgreeingRuns (λ bound. body_of (replaced loop_method call_marks.instead) classes bound (enter loop_method.parameters arguments) (record { heap = heap; events = []; answers = answers }))
    (run_of replaced_loop classes arguments heap answers)
calls_agree classes arguments heap answers =
    subst
    (λ (instead : ℕ → Option Fragment). AgreeingRuns
    (λ bound. body_of (replaced loop_method instead) classes bound (enter loop_method.parameters arguments) (record { heap = heap; events = []; answers = answers }))
    (run_of replaced_loop classes arguments heap answers)) same_instead
    (replaced_agrees loop_pool (λ piece. piece) (λ fragment. fragment) call_piece_marks loop_code loop_table call_marks loop_method replaced_loop 1 (λ place frame. inside items place) gives_way calls_fit refl replaced_is
    classes arguments heap answers refl)
