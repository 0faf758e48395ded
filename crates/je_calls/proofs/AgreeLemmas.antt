-- The program in which calls give way does what the reference run does.
use Rattle.std.proofs.Common.{◌≡◌, ℕ, ◌+◌, ◌<◌, List, [], ◌∷◌, length, map, Option, Some, None, Bool, true, false, option_map, refl, sym, ap, subst, ◌∙◌, arith}
use Rattle.std.specs.Prelude.{IsTrue, slice_get}
use Rattle.std.specs.List.{AllZip}
use Rattle.je_desc.specs.Descriptor.{MethodTypes}
use Rattle.je_machine.specs.Value.{ReferenceKind, Kind, Value, kind_of}
use Rattle.je_machine.specs.Heap.{Heap}
use Rattle.je_machine.specs.Classes.{Classes}
use Rattle.je_machine.specs.Outside.{Answer}
use Rattle.je_machine.specs.Operation.{Operation, Handler, Program}
use Rattle.je_machine.specs.Frame.{Frame, frame_of}
use Rattle.je_machine.specs.Machine.{enter, start_of, run_of}
use Rattle.je_machine.specs.Step.{Outcome}
use Rattle.je_machine.specs.View.{AgreeingRuns}
use Rattle.je_instr.specs.declared.instr.Instr.{Instr}
use Rattle.je_instr.specs.declared.program.Handler as entries
use Rattle.je_instr.specs.CodeProgram.{parameters_of}
use Rattle.je_shape.specs.Entry.{entry_of}
use Rattle.je_shape.specs.Least.{Method, Assignment}
use Rattle.je_fit.specs.Fits.{fits_shape, fits_known}
use Rattle.je_splice.specs.Block.{Piece}
use Rattle.je_splice.specs.InstrCodes.{instr_codes}
use Rattle.je_splice.specs.Laid.{Fragment, Fits}
use Rattle.je_splice.specs.Layout.{Item, Keeps, Puts, laid_code, laid_handlers}
use Rattle.je_splice.specs.Mapped.{mapped_item}
use Rattle.je_splice.specs.Marks.{Marks, marked_items, marked_handlers, IsKeptBy, replaced}
use Rattle.je_splice.specs.Put.{PutAt, replacements, marks_of}
use Rattle.je_splice.specs.Reference.{body_of}
use Rattle.je_splice.specs.Resolved.{AreProgram, GivesWay, piece_items, fragment_items}
use Rattle.je_splice.proofs.ChoiceLemmas.{all_stand, chosen_there, choices_placed}
use Rattle.je_splice.proofs.FitLemmas.{some_limit, lists_put}
use Rattle.je_splice.specs.Laid.{FitsAnywhere}
use Rattle.je_splice.proofs.GiveWayLemmas.{replaced_agrees}
use Rattle.je_splice.proofs.PutLemmas.{marks_put}
use Rattle.je_splice.proofs.ReplacedLemmas.{stand_instead}
use Rattle.je_splice.proofs.ReplacedFitLemmas.{replaced_fits}
use Rattle.je_put.specs.declared.block.Block.{Block}
use Rattle.je_put.specs.Placing.{piece_of, completes}
use Rattle.je_put.specs.Result.{with_piece, pieces}
use Rattle.je_stay.proofs.ReferenceLemmas.{step_kept}
use Rattle.je_calls.specs.declared.rule.Choice.{Choice}
use Rattle.je_calls.specs.Blocks.{blocks_of}
use Rattle.je_calls.specs.Chosen.{is_reached, choices_from, chosen_at, IsReplaceable}
use Rattle.je_calls.specs.Method.{Task, IsProgramOf, method_with, ArePlain}
use Rattle.je_calls.specs.RefRun.{reference_run, Agrees}
use Rattle.je_calls.specs.Result.{new_marks, new_program, with_code}
use Rattle.je_calls.proofs.CallLemmas.{Laws}
use Rattle.je_calls.proofs.FragmentLemmas.{fragments_of, none_leads, all_alike, all_fit, all_calls, meant_at, found_there}
use Rattle.je_calls.proofs.MeantLemmas.{shaped, inside}
use Rattle.je_calls.proofs.StepLemmas.{same_runs}
use Rattle.je_fit.specs.Sound.{IsSound}
use Rattle.je_splice.specs.Reference.{Performs}
use Rattle.je_stay.specs.Marked.{KeepsAt}
use Rattle.std.proofs.Common.{suc}

-- ---- functions that are equal at each argument

same_functions : {A B : Type 0} (f g : A → B) → ((a : A) → f a ≡ g a) → f ≡ g
same_functions f g e = λ i. λ a. e a i

itself : {A : Type 0} (o : Option A) → option_map (λ (a : A). a) o ≡ o
itself None = refl
itself (Some a) = refl

-- ---- the code is that of the pieces

same_piece : (item : Item Instr Block) → mapped_item (λ (i : Instr). i) piece_of item ≡ with_piece item
same_piece (Keeps over i) = refl
same_piece (Puts over block) = refl

same_pieces : (items : List (Item Instr Block)) → map (mapped_item (λ (i : Instr). i) piece_of) items ≡ pieces items
same_pieces [] = refl
same_pieces (item ∷ items) =
    ap (λ (a : Item Instr (Piece Instr entries.Handler)). a ∷ map (mapped_item (λ (i : Instr). i) piece_of) items) (same_piece item)
    ∙ ap (λ (l : List (Item Instr (Piece Instr entries.Handler))). with_piece item ∷ l) (same_pieces items)

-- ---- the start

pub record Starts : Type 0 where
  pub of_static : (own : List ℕ) (is_init : Bool) (types : MethodTypes) (arguments : List Value) → IsTrue (fits_shape (entry_of own true is_init types) (frame_of [] (enter (map kind_of types.params) arguments)))
  pub of_instance : (own : List ℕ) (is_init : Bool) (types : MethodTypes) (arguments : List Value)
      → IsTrue (fits_shape (entry_of own false is_init types) (frame_of [] (enter (ReferenceKind ∷ map kind_of types.params) arguments)))
  pub begins : (m : Method) (x : Assignment) (frame : Frame) → IsSound m x → 0 < length m.program.operations → IsTrue (fits_shape m.entry frame) → IsTrue (fits_known (x 0) frame)

entered : Starts → (own : List ℕ) (is_static is_init : Bool) (types : MethodTypes) (arguments : List Value)
    → IsTrue (fits_shape (entry_of own is_static is_init types) (frame_of [] (enter (parameters_of is_static types) arguments)))
entered starts own true is_init types arguments = starts.of_static own is_init types arguments
entered starts own false is_init types arguments = starts.of_instance own is_init types arguments

pub zip_long : {A B : Type 0} (R : A → B → Type 0) (xs : List A) (ys : List B) → AllZip R xs ys → length xs ≡ length ys
zip_long R [] [] h = refl
zip_long R (a ∷ xs) (b ∷ ys) h = ap suc (zip_long R xs ys h.1)
zip_long R [] (b ∷ ys) h = absurd h
zip_long R (a ∷ xs) [] h = absurd h

module _ (laws : Laws) (starts : Starts) (t : Task) (program new : Program) (x : Assignment) (sound : IsSound (method_with t program) x)
    (stays : (at : ℕ) (o : Operation) → slice_get program.operations at ≡ Some o → KeepsAt (method_with t program) x at (x (suc at)) (Performs o))
    (some : 0 < length program.operations) (is : IsProgramOf t program) (plain : ArePlain t.rules x program)
    (is_new : IsProgramOf (with_code t (new_program t.code (choices_from t.rules x 0 program.operations))) new) where
  abbrev choices : List Choice
  choices = choices_from t.rules x 0 program.operations

  abbrev fragments : List (Option Fragment)
  fragments = fragments_of program.operations choices

  abbrev places : List (PutAt Fragment)
  places = replacements 0 fragments

  abbrev n : Marks Fragment Handler
  n = marks_of (λ (h : Handler). h.target) none_leads places []

  abbrev ok : ℕ → Frame → Bool
  ok i = fits_known (x i)

  plain_from : (k : ℕ) (o : Operation) → slice_get program.operations k ≡ Some o → IsTrue (is_reached (x (0 + k))) → IsReplaceable t.rules o
  plain_from k o there reached =
      let none : 0 + k ≡ k = omega arith in
      plain k o there (subst (λ (i : ℕ). IsTrue (is_reached (x i))) none reached)

  gives : GivesWay t.consts piece_of (λ (f : Fragment). f) (new_marks t.code choices) t.code.instrs t.code.handlers n program
  gives = record {
    program = record { operations = is.operations; handlers = is.handlers };
    marks =
        marks_put t.consts piece_of (λ (f : Fragment). f) completes none_leads t.code.handlers program.handlers is.handlers (replacements 0 (blocks_of t.code.instrs choices)) places
        (choices_placed t.consts piece_of (λ (f : Fragment). f) completes none_leads 0 (blocks_of t.code.instrs choices) fragments
        (all_alike t.consts t.code.instrs program.operations choices is.operations (all_calls t.rules x 0 program.operations plain_from))) [] [] tt;
    only = stand_instead (λ (h : Handler). h.target) none_leads places (all_stand 0 fragments);
    no_entry = λ h. refl;
  }

  same_instead : (λ (i : ℕ). option_map (λ (f : Fragment). f) (n.instead i)) ≡ meant_at program x t.rules
  same_instead =
      same_functions (λ (i : ℕ). option_map (λ (f : Fragment). f) (n.instead i)) (meant_at program x t.rules)
      (λ i. itself (n.instead i) ∙ chosen_there i fragments ∙ found_there program x t.rules i)

  kept : IsKeptBy ok program (meant_at program x t.rules)
  kept = record {
    inside = λ i frame h. inside laws (method_with t program) x t.rules sound stays plain i frame h;
    kept = λ classes bound left s u fit e.
        step_kept (method_with t program).result x (replaced program (meant_at program x t.rules)) (shaped laws (method_with t program) x t.rules sound stays plain) classes bound left s u fit e;
  }

  abbrev limit : ℕ
  limit = (some_limit program.operations).0

  same_parameters : new.parameters ≡ program.parameters
  same_parameters = is_new.parameters ∙ sym is.parameters

  fits : Fits limit ok new.parameters (fragment_items (λ (f : Fragment). f) n program.operations) program.handlers
  fits =
      subst (λ (ks : List Kind). Fits limit ok ks (fragment_items (λ (f : Fragment). f) n program.operations) program.handlers) (sym same_parameters)
      (replaced_fits (λ (f : Fragment). f) limit ok n program gives.only (λ h. refl) (some_limit program.operations).1
      (lists_put (λ (f : Fragment). FitsAnywhere limit f) (λ (h : Handler). h.target) none_leads places [] (all_fit limit 0 program.operations choices) tt)
      (subst (IsKeptBy ok program) (sym same_instead) kept))

  abbrev IsNew : List (Item Instr (Piece Instr entries.Handler)) → Type 0
  IsNew items = AreProgram t.consts (laid_code instr_codes items) (laid_handlers instr_codes items (marked_handlers instr_codes (new_marks t.code choices) t.code.handlers)) new

  is_laid : IsNew (piece_items piece_of (new_marks t.code choices) t.code.instrs)
  is_laid = subst IsNew (sym (same_pieces (marked_items instr_codes (new_marks t.code choices) t.code.instrs))) (record { operations = is_new.operations; handlers = is_new.handlers })

  begins : (arguments : List Value) → IsTrue (ok 0 (frame_of [] (enter program.parameters arguments)))
  begins arguments =
      starts.begins (method_with t program) x (frame_of [] (enter program.parameters arguments)) sound some
      (subst (λ (ks : List Kind). IsTrue (fits_shape (method_with t program).entry (frame_of [] (enter ks arguments)))) (sym is.parameters) (entered starts t.class_name t.is_static t.is_init t.types arguments))

  abbrev meant_run : (ℕ → Option Fragment) → Classes → List Value → Heap → List Answer → ℕ → Outcome
  meant_run instead classes arguments heap answers bound =
      body_of (replaced program instead) classes bound (enter program.parameters arguments) (record { heap = heap; events = []; answers = answers })

  same_outcomes : (classes : Classes) (arguments : List Value) (heap : Heap) (answers : List Answer)
      → reference_run program (chosen_at program x t.rules) classes arguments heap answers ≡ meant_run (meant_at program x t.rules) classes arguments heap answers
  same_outcomes classes arguments heap answers =
      same_functions (reference_run program (chosen_at program x t.rules) classes arguments heap answers) (meant_run (meant_at program x t.rules) classes arguments heap answers)
      (λ bound. same_runs laws classes program x t.rules plain (λ b left s u fit e. kept.kept classes b left s u fit e) bound bound (start_of program arguments heap answers) (begins arguments))

  pub agrees : Agrees program (chosen_at program x t.rules) new
  agrees = λ classes arguments heap answers.
      subst (λ (r : ℕ → Outcome). AgreeingRuns r (run_of new classes arguments heap answers)) (sym (same_outcomes classes arguments heap answers))
      (subst (λ (instead : ℕ → Option Fragment). AgreeingRuns (meant_run instead classes arguments heap answers) (run_of new classes arguments heap answers)) same_instead
      (replaced_agrees t.consts piece_of (λ (f : Fragment). f) (new_marks t.code choices) t.code.instrs t.code.handlers n program new limit ok gives fits same_parameters is_laid classes arguments heap answers (begins arguments)))
