-- Code of which some instructions give way does what is meant by the method's own indexes.
use Rattle.std.proofs.Common.{◌≡◌, ℕ, suc, List, [], length, Bool, sym, ap, subst, ◌∙◌}
use Rattle.std.specs.Prelude.{IsTrue, option_map}
use Rattle.je_consts.specs.declared.place.Place.{Place}
use Rattle.je_machine.specs.Value.{Kind, Value}
use Rattle.je_machine.specs.Heap.{Heap}
use Rattle.je_machine.specs.Classes.{Classes}
use Rattle.je_machine.specs.Outside.{Answer}
use Rattle.je_machine.specs.Operation.{Operation, Handler, Program}
use Rattle.je_machine.specs.Frame.{Frame, frame_of}
use Rattle.je_machine.specs.Machine.{enter, run_of}
use Rattle.je_machine.specs.View.{AgreeingRuns}
use Rattle.je_instr.specs.declared.instr.Instr.{Instr}
use Rattle.je_splice.specs.Comes.{Does}
use Rattle.je_splice.specs.InstrCodes.{instr_codes}
use Rattle.je_splice.specs.Layout.{Item, operation_codes, laid_code, laid_handlers}
use Rattle.je_splice.specs.Laid.{Fragment, reference_of, Fits}
use Rattle.je_splice.specs.Mapped.{mapped_item}
use Rattle.je_splice.specs.Marks.{Marks, marked_items, marked_handlers, replaced}
use Rattle.je_splice.specs.Reference.{Reference, body_of}
use Rattle.je_splice.specs.Resolved.{Entry, CodePiece, AreProgram, GivesWay, piece_items, fragment_items}
use Rattle.je_splice.proofs.ComesLemmas.{does_agree}
use Rattle.je_splice.proofs.LayoutLemmas.{mapped_length}
use Rattle.je_splice.proofs.MarksLemmas.{first_alone, marked_length}
use Rattle.je_splice.proofs.ReplacedLemmas.{handlers_are, marked_is}
use Rattle.je_splice.proofs.ResolvedLemmas.{woven, marks_meant}

module _ {X Y : Type 0} (consts : List Place) (piece_of : X → CodePiece) (fragment_of : Y → Fragment) (m : Marks X Entry) (code : List Instr) (table : List Entry) (n : Marks Y Handler) (p q : Program)
    (limit : ℕ) (ok : ℕ → Frame → Bool) (gives : GivesWay consts piece_of fragment_of m code table n p) (fits : Fits limit ok q.parameters (fragment_items fragment_of n p.operations) p.handlers)
    (parameters : q.parameters ≡ p.parameters)
    (is : AreProgram consts (laid_code instr_codes (piece_items piece_of m code)) (laid_handlers instr_codes (piece_items piece_of m code) (marked_handlers instr_codes m table)) q) where
  abbrev meant : List (Item Operation Fragment)
  meant = fragment_items fragment_of n p.operations

  abbrev handlers : List Handler
  handlers = marked_handlers operation_codes n p.handlers

  same_handlers : handlers ≡ p.handlers
  same_handlers = handlers_are fragment_of n gives.only gives.no_entry p.handlers

  same_length : length meant ≡ length p.operations
  same_length = mapped_length (mapped_item (λ (o : Operation). o) fragment_of) (marked_items operation_codes n p.operations) ∙ marked_length operation_codes n p.operations ∙ first_alone n gives.only (length p.operations)

  same_reference : reference_of q.parameters meant handlers ≡ replaced p (λ i. option_map fragment_of (n.instead i))
  same_reference = ap (λ (ks : List Kind). reference_of ks meant handlers) parameters ∙ marked_is fragment_of n gives.only gives.no_entry p

  pub replaced_does : (classes : Classes)
      → Does q classes limit (length p.operations) (suc (length p.operations)) (λ locals. ok 0 (frame_of [] locals)) (body_of (replaced p (λ i. option_map fragment_of (n.instead i))) classes)
  replaced_does classes =
      let fitted : Fits limit ok q.parameters meant handlers = subst (Fits limit ok q.parameters meant) (sym same_handlers) fits in
      let does : Does q classes limit (length meant) (suc (length meant)) (λ locals. ok 0 (frame_of [] locals)) (body_of (reference_of q.parameters meant handlers) classes) =
      (woven consts (piece_items piece_of m code) (marked_handlers instr_codes m table)).does limit ok meant handlers q
      (marks_meant consts piece_of fragment_of m n code table p gives.program gives.marks) fitted is classes in
      subst (λ (r : Reference). Does q classes limit (length p.operations) (suc (length p.operations)) (λ locals. ok 0 (frame_of [] locals)) (body_of r classes)) same_reference
      (subst (λ (most : ℕ). Does q classes limit most (suc most) (λ locals. ok 0 (frame_of [] locals)) (body_of (reference_of q.parameters meant handlers) classes)) same_length does)

  pub replaced_agrees : (classes : Classes) (arguments : List Value) (heap : Heap) (answers : List Answer) → IsTrue (ok 0 (frame_of [] (enter p.parameters arguments)))
      → AgreeingRuns (λ bound. body_of (replaced p (λ i. option_map fragment_of (n.instead i))) classes bound (enter p.parameters arguments) (record { heap = heap; events = []; answers = answers }))
      (run_of q classes arguments heap answers)
  replaced_agrees classes arguments heap answers fine =
      subst
      (λ (ks : List Kind). IsTrue (ok 0 (frame_of [] (enter ks arguments))) → AgreeingRuns
      (λ bound. body_of (replaced p (λ i. option_map fragment_of (n.instead i))) classes bound (enter ks arguments) (record { heap = heap; events = []; answers = answers })) (run_of q classes arguments heap answers)) parameters
      (λ start. does_agree q classes limit (length p.operations) (suc (length p.operations)) (λ locals. ok 0 (frame_of [] locals)) (body_of (replaced p (λ i. option_map fragment_of (n.instead i))) classes) (replaced_does classes)
      (enter q.parameters arguments) (record { heap = heap; events = []; answers = answers }) start) fine
