-- Code with its pieces in place is the program with its blocks in place.
use Rattle.std.proofs.Common.{◌≡◌, ℕ, suc, List, [], ◌∷◌, length, map, Option, Some, None, Bool, refl, sym, ap, subst, ◌∙◌}
use Rattle.std.specs.List.{AllZip}
use Rattle.je_consts.specs.declared.place.Place.{Place}
use Rattle.je_machine.specs.Content.{Class}
use Rattle.je_machine.specs.Value.{Kind}
use Rattle.je_machine.specs.Classes.{Classes}
use Rattle.je_machine.specs.Operation.{Operation, Handler, Program}
use Rattle.je_machine.specs.Frame.{Frame, frame_of}
use Rattle.je_machine.specs.Machine.{enter}
use Rattle.je_instr.specs.declared.instr.Instr.{Instr}
use Rattle.je_instr.specs.declared.program.Decoded.{Decoded}
use Rattle.je_instr.specs.declared.program.RawHandler.{RawHandler}
use Rattle.je_instr.specs.CodeProgram.{Catches, IsHandlerOf, CodeProgram}
use Rattle.je_instr.specs.Decoding.{Decodes}
use Rattle.je_instr.proofs.DecodeLemmas.{same_decoded}
use Rattle.je_instr.specs.Content.{content_at}
use Rattle.je_instr.specs.Resolves.{Resolves}
use Rattle.je_instr.proofs.OperationLemmas.{some_is, all_resolve_once}
use Rattle.je_instr.proofs.ProgramLemmas.{program_made}
use Rattle.je_instr.proofs.ZipLemmas.{zip_once}
use Rattle.je_splice.specs.Block.{Block}
use Rattle.je_splice.specs.Comes.{Does}
use Rattle.je_splice.specs.InstrCodes.{instr_codes}
use Rattle.je_splice.specs.Reference.{body_of}
use Rattle.je_splice.specs.Layout.{Item, Keeps, Puts, operation_codes, laid_code, laid_handlers}
use Rattle.je_splice.specs.Laid.{Fragment, reference_of, with_block, blocks_of, laid, Fits}
use Rattle.je_splice.specs.Mapped.{mapped_item}
use Rattle.je_splice.specs.Marks.{Marks, marked_items, marked_handlers}
use Rattle.je_splice.specs.Resolved.{Entry, CodePiece, AreProgram, IsItemOf, AreMeant, IsPutAs, IsInstead, AreMarksOf, piece_items, fragment_items, IsWoven}
use Rattle.je_splice.proofs.AlikeLemmas.{AlikePieces, AlikeItems, AlikeOptions, AlikeMarks, laid_code_alike, laid_handlers_alike, marked_items_alike, marked_handlers_alike}
use Rattle.je_splice.proofs.ComesLemmas.{does_agree}
use Rattle.je_splice.proofs.InstrLemmas.{codes_alike}
use Rattle.je_splice.proofs.LaidLemmas.{laid_does}

module _ (consts : List Place) where
  abbrev Same : Item Instr CodePiece → Item Operation Block → Type 0
  Same = AlikeItems (Resolves consts) (AlikePieces (Resolves consts) (IsHandlerOf consts))

  -- ---- one program

  same_name : (a b : List ℕ) → Class a ≡ Class b → a ≡ b
  same_name a b e = cc

  -- no class stands at 0
  no_class : (index : ℕ) (name : List ℕ) → index ≡ 0 → content_at consts index ≡ Some (Class name) → ⊥
  no_class index name none here =
      let first : content_at consts 0 ≡ Some (Class name) = subst (λ (k : ℕ). content_at consts k ≡ Some (Class name)) none here in
      absurd cc

  one_catch : (index : ℕ) (a b : Option (List ℕ)) → Catches consts index a → Catches consts index b → a ≡ b
  one_catch index None None ha hb = refl
  one_catch index None (Some n) ha hb = absurd (no_class index n ha hb.0)
  one_catch index (Some m) None ha hb = absurd (no_class index m hb ha.0)
  one_catch index (Some m) (Some n) ha hb = ap Some (same_name m n (some_is (Class m) (Class n) (sym ha.0 ∙ hb.0)))

  abbrev handler_made : ℕ → ℕ → ℕ → Option (List ℕ) → Handler
  handler_made start end target class = record { start = start; end = end; target = target; catch_class = class }

  one_handler : (e : Entry) (g h : Handler) → IsHandlerOf consts e g → IsHandlerOf consts e h → g ≡ h
  one_handler e g h ig ih =
      ap (λ (x : ℕ). handler_made x g.end g.target g.catch_class) (ig.start ∙ sym ih.start)
      ∙ ap (λ (x : ℕ). handler_made h.start x g.target g.catch_class) (ig.end ∙ sym ih.end)
      ∙ ap (λ (x : ℕ). handler_made h.start h.end x g.catch_class) (ig.target ∙ sym ih.target)
      ∙ ap (λ (x : Option (List ℕ)). handler_made h.start h.end h.target x) (one_catch e.catch_const g.catch_class h.catch_class ig.catches ih.catches)

  pub same_program : (code : List Instr) (table : List Entry) (p q : Program) → p.parameters ≡ q.parameters → AreProgram consts code table p → AreProgram consts code table q → p ≡ q
  same_program code table p q parameters h k =
      let operations = all_resolve_once consts code p.operations q.operations h.operations k.operations in
      let handlers = zip_once (IsHandlerOf consts) table p.handlers q.handlers one_handler h.handlers k.handlers in
      ap (λ (x : List Kind). program_made x p.operations p.handlers) parameters
      ∙ ap (λ (x : List Operation). program_made q.parameters x p.handlers) operations
      ∙ ap (λ (x : List Handler). program_made q.parameters q.operations x) handlers

  pub program_resolves : (is_static : Bool) (text bytes : List ℕ) (raw : List RawHandler) (d : Decoded) (p : Program) → Decodes consts bytes raw d → CodeProgram consts is_static text bytes raw p
      → AreProgram consts d.program.instrs d.program.handlers p
  program_resolves is_static text bytes raw d p decodes is =
      subst (λ (e : Decoded). AreProgram consts e.program.instrs e.program.handlers p) (same_decoded consts bytes raw is.decoded d is.decodes decodes)
      (record { operations = is.resolved; handlers = is.handlers })

  -- ---- items that are laid out

  laid_item : (x : Item Instr CodePiece) (y : Item Operation Fragment) → IsItemOf consts x y → Same x (with_block y)
  laid_item (Keeps over i) (Keeps other o) h = h
  laid_item (Keeps over i) (Puts other fragment) h = absurd h
  laid_item (Puts over piece) (Keeps other o) h = absurd h
  laid_item (Puts over piece) (Puts other fragment) h = (h.0, record { code = h.1.code; handlers = h.1.handlers })

  laid_items : (xs : List (Item Instr CodePiece)) (ys : List (Item Operation Fragment)) → AllZip (IsItemOf consts) xs ys → AllZip Same xs (blocks_of ys)
  laid_items [] [] h = tt
  laid_items [] (y ∷ ys) h = absurd h
  laid_items (x ∷ xs) [] h = absurd h
  laid_items (x ∷ xs) (y ∷ ys) h = (laid_item x y h.0, laid_items xs ys h.1)

  module _ (items : List (Item Instr CodePiece)) (table : List Entry) where
    abbrev code : List Instr
    code = laid_code instr_codes items

    abbrev laid_table : List Entry
    laid_table = laid_handlers instr_codes items table

    woven_is : (parameters : List Kind) (meant : List (Item Operation Fragment)) (handlers : List Handler) → AreMeant consts items table meant handlers
        → AreProgram consts code laid_table (laid parameters meant handlers)
    woven_is parameters meant handlers h = record {
      operations = laid_code_alike (Resolves consts) (IsHandlerOf consts) instr_codes operation_codes (codes_alike consts) items (blocks_of meant) (laid_items items meant h.each);
      handlers =
          laid_handlers_alike (Resolves consts) (IsHandlerOf consts) instr_codes operation_codes (codes_alike consts) items (blocks_of meant) table handlers (laid_items items meant h.each) h.caught;
    }

    woven_does : (limit : ℕ) (ok : ℕ → Frame → Bool) (meant : List (Item Operation Fragment)) (handlers : List Handler) (q : Program) → AreMeant consts items table meant handlers
        → Fits limit ok q.parameters meant handlers → AreProgram consts code laid_table q → (classes : Classes)
        → Does q classes limit (length meant) (suc (length meant)) (λ locals. ok 0 (frame_of [] locals)) (body_of (reference_of q.parameters meant handlers) classes)
    woven_does limit ok meant handlers q h fits is classes =
        let same : laid q.parameters meant handlers ≡ q = same_program code laid_table (laid q.parameters meant handlers) q refl (woven_is q.parameters meant handlers h) is in
        subst (λ (p : Program). Does p classes limit (length meant) (suc (length meant)) (λ locals. ok 0 (frame_of [] locals)) (body_of (reference_of q.parameters meant handlers) classes)) same
        (laid_does limit ok q.parameters meant handlers fits classes)

    pub woven : IsWoven consts items table code laid_table
    woven = record {
      is_program = woven_is;
      does = woven_does;
      agrees = λ limit ok meant handlers q h fits is classes arguments heap answers fine.
          does_agree q classes limit (length meant) (suc (length meant)) (λ locals. ok 0 (frame_of [] locals)) (body_of (reference_of q.parameters meant handlers) classes)
          (woven_does limit ok meant handlers q h fits is classes) (enter q.parameters arguments) (record { heap = heap; events = []; answers = answers }) fine;
    }

  -- ---- marks

  module _ {X Y : Type 0} (piece_of : X → CodePiece) (fragment_of : Y → Fragment) (m : Marks X Entry) (n : Marks Y Handler) where
    abbrev PutAs : X → Y → Type 0
    PutAs = IsPutAs consts piece_of fragment_of m.completes n.completes

    same_option : (o : Option X) (p : Option Y) → IsInstead consts piece_of fragment_of m.completes n.completes o p → AlikeOptions PutAs o p
    same_option None None h = tt
    same_option None (Some y) h = absurd h
    same_option (Some x) None h = absurd h
    same_option (Some x) (Some y) h = h

    put_item : (x : Item Instr X) (y : Item Operation Y) → AlikeItems (Resolves consts) PutAs x y → IsItemOf consts (mapped_item (λ i. i) piece_of x) (mapped_item (λ o. o) fragment_of y)
    put_item (Keeps over i) (Keeps other o) h = h
    put_item (Keeps over i) (Puts other y) h = absurd h
    put_item (Puts over x) (Keeps other o) h = absurd h
    put_item (Puts over x) (Puts other y) h = (h.0, h.1.0)

    put_items : (xs : List (Item Instr X)) (ys : List (Item Operation Y)) → AllZip (AlikeItems (Resolves consts) PutAs) xs ys
        → AllZip (IsItemOf consts) (map (mapped_item (λ i. i) piece_of) xs) (map (mapped_item (λ o. o) fragment_of) ys)
    put_items [] [] h = tt
    put_items [] (y ∷ ys) h = absurd h
    put_items (x ∷ xs) [] h = absurd h
    put_items (x ∷ xs) (y ∷ ys) h = (put_item x y h.0, put_items xs ys h.1)

    pub marks_meant : (code : List Instr) (table : List Entry) (p : Program) → AreProgram consts code table p → AreMarksOf consts piece_of fragment_of m table n p.handlers
        → AreMeant consts (piece_items piece_of m code) (marked_handlers instr_codes m table) (fragment_items fragment_of n p.operations) (marked_handlers operation_codes n p.handlers)
    marks_meant code table p is marks =
        let alike : AlikeMarks PutAs m n = record {
          entries = marks.entries;
          passed = marks.passed;
          met = marks.met;
          instead = λ i. same_option (m.instead i) (n.instead i) (marks.instead i);
          completes = λ x y h. h.1;
        } in
        record {
          each =
              put_items (marked_items instr_codes m code) (marked_items operation_codes n p.operations)
              (marked_items_alike (Resolves consts) PutAs (IsHandlerOf consts) instr_codes operation_codes (codes_alike consts) m n alike code p.operations is.operations);
          caught =
              marked_handlers_alike (Resolves consts) PutAs (IsHandlerOf consts) instr_codes operation_codes (codes_alike consts) m n alike table p.handlers is.handlers marks.entry_of;
        }

-- fragments themselves
same_item : (x : Item Operation Fragment) → mapped_item (λ (o : Operation). o) (λ (f : Fragment). f) x ≡ x
same_item (Keeps over o) = refl
same_item (Puts over fragment) = refl

same_items : (xs : List (Item Operation Fragment)) → map (mapped_item (λ (o : Operation). o) (λ (f : Fragment). f)) xs ≡ xs
same_items [] = refl
same_items (x ∷ xs) = ap (λ (y : Item Operation Fragment). y ∷ map (mapped_item (λ (o : Operation). o) (λ (f : Fragment). f)) xs) (same_item x) ∙ ap (λ (ys : List (Item Operation Fragment)). x ∷ ys) (same_items xs)

pub fragments_meant : (n : Marks Fragment Handler) (operations : List Operation) → fragment_items (λ (f : Fragment). f) n operations ≡ marked_items operation_codes n operations
fragments_meant n operations = same_items (marked_items operation_codes n operations)
