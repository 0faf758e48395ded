-- A method whose pieces keep to the shapes of their indexes is a reference that keeps to those of its places.
use Rattle.std.proofs.Common.{◌≡◌, ℕ, zero, suc, ◌+◌, ◌<◌, ◌≤◌, ◌⊎◌, inl, inr, List, [], ◌∷◌, length, Option, Some, None, Bool, true, false, refl, sym, ap, subst, ◌∙◌, arith}
use Rattle.std.specs.Prelude.{IsTrue, IfSome, cond, option_map, slice_get}
use Rattle.std.specs.List.{AllByRecursion, find}
use Rattle.std.proofs.lemmas.Option.{slice_get_within}
use Rattle.je_machine.specs.Value.{Kind, Value, Int, Long, Flt, Dbl, Null, Obj, Const, ReferenceKind, admit}
use Rattle.je_machine.specs.Heap.{Heap}
use Rattle.je_machine.specs.Classes.{Classes}
use Rattle.je_machine.specs.Outside.{Outside, throw_admitted}
use Rattle.je_machine.specs.Operation.{Nop, Push, Drop, Copy, Swap, Act, Throw, Operation, Do, Load, Store, Increment, Branch, Goto, Switch, Return, Handler}
use Rattle.je_machine.specs.Frame.{Frame, frame_of, Flow, Falls, Jumps, Leaves, Raises, Halts, perform, stacked, flow_of, top, below}
use Rattle.je_machine.specs.Machine.{Outer, catcher, is_handler_of}
use Rattle.je_machine.specs.Moved.{retargeted, moved_flow}
use Rattle.je_machine.specs.IndexMap.{may_fall}
use Rattle.je_machine.specs.Slots.{UsesBelow}
use Rattle.je_machine.proofs.MovedLemmas.{perform_retargeted}
use Rattle.je_shape.specs.Shape.{Known, Nothing}
use Rattle.je_shape.specs.Least.{Method, Assignment}
use Rattle.je_fit.specs.Fits.{fits_known}
use Rattle.je_splice.specs.Block.{Completes, Throws, Returns, Meant, Exits, Stays, Meaning}
use Rattle.je_splice.specs.Means.{BlockMeans}
use Rattle.je_splice.specs.Reference.{Doing, Performs, Means}
use Rattle.je_splice.specs.Layout.{operation_codes, Item, Keeps, Puts, next_place}
use Rattle.je_splice.specs.Laid.{Fragment, doing_of, FitsItem}
use Rattle.je_splice.specs.Marks.{Marks, lead_width, first_of, arrive, stand, fall_to, entry_target, marked_items, marked_handlers, marked_target, marked, IsPut}
use Rattle.je_splice.proofs.MarksLemmas.{stand_before, entry_stands, passed_stands, met_stands, instruction_stands, instead_stands, lead_stands, marked_length, marked_catcher}
use Rattle.je_stay.specs.Keeping.{PerformKeeps, MeantKeeps, DoingKeeps, IsShaped}
use Rattle.je_stay.specs.Marked.{known_at, thrown_from, KeepsAt, if_leads, MeetsPiece, KeepsMarked, FitsPiece, FitsMarked}
use Rattle.je_stay.proofs.ReferenceLemmas.{less_or_not, nothing_fits}
use Rattle.je_stay.proofs.PlaceLemmas.{thing_at, Part, EntryPart, PassedPart, MetPart, LastPart, part_at, index_within, known_past, known_is, front_fits, fits_front}

-- ---- what keeps to shapes, at other places

-- frames that fit the one fit the other
abbrev Gives : Known → Known → Type 0
Gives k l = (f : Frame) → IsTrue (fits_known k f) → IsTrue (fits_known l f)

abbrev Enters : Assignment → Frame → Option ℕ → Type 0
Enters x f target = IfSome target (λ to. IsTrue (fits_known (x to) f))

-- a handler that is entered so is entered so there
abbrev Catches : Assignment → Assignment → (Classes → Outer) → (Classes → Outer) → Type 0
Catches x y outer other = (classes : Classes) (heap : Heap) (v : Value) (f : Frame) → Enters x f (outer classes heap v) → Enters y f (other classes heap v)

meant_moves : (kind : Option (Option Kind)) (x y : Assignment) (next there : Known) (outer other : Classes → Outer) (classes : Classes) (meant : Meant) → Gives next there
    → Catches x y outer other → MeantKeeps kind x next (outer classes) meant → MeantKeeps kind y there (other classes) meant
meant_moves kind x y next there outer other classes (Exits (Completes stack) left locals o) gives catches h = gives (frame_of stack locals) h
meant_moves kind x y next there outer other classes (Exits (Throws v) left locals o) gives catches h = (h.0, catches classes o.heap v (frame_of (v ∷ []) locals) h.1)
meant_moves kind x y next there outer other classes (Exits (Returns result) left locals o) gives catches h = h
meant_moves kind x y next there outer other classes (Stays left locals o) gives catches h = tt

meaning_moves : (kind : Option (Option Kind)) (x y : Assignment) (before here next there : Known) (outer other : Classes → Outer) (meaning : Classes → Meaning) → Gives here before
    → Gives next there → Catches x y outer other → DoingKeeps kind x before next outer (Means meaning) → DoingKeeps kind y here there other (Means meaning)
meaning_moves kind x y before here next there outer other meaning comes gives catches keeps =
    λ classes bound frame outside fit.
    meant_moves kind x y next there outer other classes (meaning classes bound frame outside) gives catches (keeps classes bound frame outside (comes frame fit))

-- the frame in which it goes on to the next, if it may
abbrev FallsIf : Bool → Flow → Type 0
FallsIf falls (Falls f o) = IsTrue falls
FallsIf falls _ = Unit {0}

throw_falls : (locals rest : List Value) (v : Value) (o : Outside) → FallsIf false (flow_of locals (stacked rest (throw_admitted v o)))
throw_falls locals rest (Int n) o = tt
throw_falls locals rest (Long n) o = tt
throw_falls locals rest (Flt n) o = tt
throw_falls locals rest (Dbl n) o = tt
throw_falls locals rest Null o = tt
throw_falls locals rest (Obj n) o = tt
throw_falls locals rest (Const c) o = tt

any_falls : (flow : Flow) → FallsIf true flow
any_falls (Falls f o) = refl
any_falls (Jumps target f o) = tt
any_falls (Leaves result o) = tt
any_falls (Raises v o) = tt
any_falls (Halts o) = tt

perform_falls : (classes : Classes) (op : Operation) (f : Frame) (o : Outside) → FallsIf (may_fall op) (perform classes op f o)
perform_falls classes (Do Nop) f o = refl
perform_falls classes (Do (Push v)) f o = refl
perform_falls classes (Do (Drop p)) f o = refl
perform_falls classes (Do (Copy p d)) f o = refl
perform_falls classes (Do Swap) f o = refl
perform_falls classes (Do (Act a)) f o = any_falls (perform classes (Do (Act a)) f o)
perform_falls classes (Do Throw) f o = throw_falls f.locals (below f.stack) (admit ReferenceKind (top f.stack)) o
perform_falls classes (Load kind slot) f o = refl
perform_falls classes (Store kind slot) f o = refl
perform_falls classes (Increment slot by) f o = refl
perform_falls classes (Branch c target) f o = any_falls (perform classes (Branch c target) f o)
perform_falls classes (Goto target) f o = tt
perform_falls classes (Switch cases fallback) f o = tt
perform_falls classes (Return None) f o = tt
perform_falls classes (Return (Some kind)) f o = tt

flow_moves : (kind : Option (Option Kind)) (x y : Assignment) (to : ℕ → ℕ) (next there : Known) (outer other : Classes → Outer) (classes : Classes) (locals : List Value) (falls : Bool)
    (flow : Flow) → FallsIf falls flow → (IsTrue falls → Gives next there) → ((target : ℕ) → Gives (x target) (y (to target))) → Catches x y outer other
    → PerformKeeps kind x next (outer classes) locals flow → PerformKeeps kind y there (other classes) locals (moved_flow to flow)
flow_moves kind x y to next there outer other classes locals falls (Falls f o) may gives jumps catches h = gives may f h
flow_moves kind x y to next there outer other classes locals falls (Jumps target f o) may gives jumps catches h = jumps target f h
flow_moves kind x y to next there outer other classes locals falls (Leaves result o) may gives jumps catches h = h
flow_moves kind x y to next there outer other classes locals falls (Raises v o) may gives jumps catches h = (h.0, catches classes o.heap v (frame_of (v ∷ []) locals) h.1)
flow_moves kind x y to next there outer other classes locals falls (Halts o) may gives jumps catches h = tt

pub operation_moves : (kind : Option (Option Kind)) (x y : Assignment) (to : ℕ → ℕ) (before here next there : Known) (outer other : Classes → Outer) (op : Operation) → Gives here before
    → (IsTrue (may_fall op) → Gives next there) → ((target : ℕ) → Gives (x target) (y (to target))) → Catches x y outer other
    → DoingKeeps kind x before next outer (Performs op) → DoingKeeps kind y here there other (Performs (retargeted to op))
operation_moves kind x y to before here next there outer other op comes gives jumps catches keeps =
    λ classes frame outside fit.
    subst (λ flow. PerformKeeps kind y there (other classes) frame.locals flow) (sym (perform_retargeted classes to op frame outside))
    (flow_moves kind x y to next there outer other classes frame.locals (may_fall op) (perform classes op frame outside) (perform_falls classes op frame outside) gives jumps catches
    (keeps classes frame outside (comes frame fit)))

-- what is done where nothing is known
nothing_keeps : (kind : Option (Option Kind)) (x : Assignment) (here next : Known) (outer : Classes → Outer) (doing : Doing) → here ≡ Nothing → DoingKeeps kind x here next outer doing
nothing_keeps kind x here next outer (Performs op) e = λ classes frame outside fit. absurd (nothing_fits here frame e fit)
nothing_keeps kind x here next outer (Means meaning) e = λ classes bound frame outside fit. absurd (nothing_fits here frame e fit)

led : (b : Bool) (k : Known) (f : Frame) → IsTrue (fits_known (if_leads b k) f) → IsTrue b × IsTrue (fits_known k f)
led true k f h = (refl, h)
led false k f h = absurd cc

uses_retargeted : (limit : ℕ) (to : ℕ → ℕ) (op : Operation) → UsesBelow limit op → UsesBelow limit (retargeted to op)
uses_retargeted limit to (Do basic) h = tt
uses_retargeted limit to (Load kind slot) h = h
uses_retargeted limit to (Store kind slot) h = h
uses_retargeted limit to (Increment slot by) h = h
uses_retargeted limit to (Branch c target) h = tt
uses_retargeted limit to (Goto target) h = tt
uses_retargeted limit to (Switch cases fallback) h = tt
uses_retargeted limit to (Return kind) h = tt

same_doing : (a b : Doing) → Some a ≡ Some b → a ≡ b
same_doing a b e = cc

same_item : (a b : Item Operation Fragment) → Some a ≡ Some b → a ≡ b
same_item a b e = cc

none_some : {A : Type 0} (a : A) → Some a ≡ None → ⊥
none_some a e = absurd cc

-- ---- a method with marks

module _ (m : Method) (x : Assignment) (marks : Marks Fragment Handler) (keeps : KeepsMarked m x marks) where
  abbrev code : List Operation
  code = m.program.operations

  abbrev y : Assignment
  y = known_at marks x (length code)

  abbrev items : List (Item Operation Fragment)
  items = marked_items operation_codes marks code

  abbrev handlers : List Handler
  handlers = marked_handlers operation_codes marks m.program.handlers

  abbrev thrown : ℕ → Classes → Outer
  thrown place classes = catcher handlers classes place

  -- the index of what fits is one of the code
  fitting : (at : ℕ) (f : Frame) → IsTrue (fits_known (x at) f) → (at < length code) ⊎ (length code ≤ at) → at < length code
  fitting at f fit (inl less) = less
  fitting at f fit (inr le) = absurd (nothing_fits (x at) f (keeps.behind at le) fit)

  gives_place : (at place : ℕ) → first_of marks at ≤ place → place < first_of marks (suc at) → Gives (x at) (y place)
  gives_place at place low high f fit =
      let inside = fitting at f fit (less_or_not at (length code)) in
      subst (λ k. IsTrue (fits_known k f)) (sym (known_is marks x (length code) at place inside low high)) fit

  gives_arrive : (at : ℕ) → Gives (x at) (y (arrive marks at))
  gives_arrive at = gives_place at (arrive marks at) (omega arith) (omega arith)

  gives_fall : (at : ℕ) → Gives (x at) (y (fall_to marks at))
  gives_fall at = gives_place at (fall_to marks at) (omega arith) (omega arith)

  pub begins_there : (f : Frame) → IsTrue (fits_known (x 0) f) → IsTrue (fits_known (y 0) f)
  begins_there f fit = fits_front marks x (length code) 0 f (λ none. keeps.behind 0 none) (omega arith) fit

  -- ---- throws

  target_by : (h : Handler) (entry : Option ℕ) → IfSome entry (λ k. k < length (marks.entries h.target)) → Gives (x h.target) (y (entry_target marks entry h.target))
  target_by h None meets = gives_arrive h.target
  target_by h (Some k) meets = gives_place h.target (first_of marks h.target + k) (omega arith) (omega (arith, meets))

  first_moves : (f : Frame) (b : Bool) (h : Handler) (rest : Option Handler) → MeetsPiece marks h
      → (Enters x f (option_map (λ (h : Handler). h.target) rest) → Enters y f (option_map (marked_target marks) rest))
      → Enters x f (option_map (λ (h : Handler). h.target) (cond b (Some h) rest)) → Enters y f (option_map (marked_target marks) (cond b (Some h) rest))
  first_moves f true h rest meets on enters = target_by h (marks.entry_of h) meets f enters
  first_moves f false h rest meets on enters = on enters

  found_moves : (f : Frame) (classes : Classes) (heap : Heap) (v : Value) (at : ℕ) (hs : List Handler) → AllByRecursion (MeetsPiece marks) hs
      → Enters x f (catcher hs classes at heap v) → Enters y f (option_map (marked_target marks) (find (is_handler_of classes heap v at) hs))
  found_moves f classes heap v at [] meets enters = tt
  found_moves f classes heap v at (h ∷ hs) meets enters =
      first_moves f (is_handler_of classes heap v at h) h (find (is_handler_of classes heap v at) hs) meets.0 (found_moves f classes heap v at hs meets.1) enters

  catches_there : (at place : ℕ) → first_of marks at ≤ place → place < first_of marks (suc at) → Catches x y (thrown_from m at) (thrown place)
  catches_there at place low high classes heap v f enters =
      subst (λ (t : Option ℕ). Enters y f t) (sym (marked_catcher marks classes heap v m.program.handlers at place low high))
      (found_moves f classes heap v at m.program.handlers keeps.pieces.meets enters)

  -- ---- what is done at a place

  abbrev KeepsPlace : ℕ → Doing → Type 0
  KeepsPlace place doing = DoingKeeps m.result y (y place) (y (next_place items place)) (thrown place) doing

  -- a piece that keeps to the shapes of its index
  piece_keeps : (at place : ℕ) (piece : Fragment) (completes : Bool) (next : ℕ) (known : Known) → at < length code → first_of marks at ≤ place → place < first_of marks (suc at)
      → IsPut items place piece completes next → (IsTrue completes → Gives known (y next)) → KeepsAt m x at (if_leads completes known) (Means piece.meaning)
      → KeepsPlace place (Means piece.meaning)
  piece_keeps at place piece completes next known inside low high put gives kept =
      meaning_moves m.result x y (x at) (y place) (if_leads completes known) (y (next_place items place)) (thrown_from m at) (thrown place) piece.meaning
      (λ f fit. subst (λ k. IsTrue (fits_known k f)) (known_is marks x (length code) at place inside low high) fit)
      (λ f fit.
      let both = led completes known f fit in
      subst (λ (n : ℕ). IsTrue (fits_known (y n) f)) (sym (put.leads both.0)) (gives both.0 f both.1))
      (catches_there at place low high) kept

  abbrev HasDoing : ℕ → Doing → Type 0
  HasDoing place doing = option_map doing_of (slice_get items place) ≡ Some doing

  -- what stands at a place is what is done there
  by_item : (place : ℕ) (item : Item Operation Fragment) (doing : Doing) → slice_get items place ≡ Some item → HasDoing place doing → KeepsPlace place (doing_of item)
      → KeepsPlace place doing
  by_item place item doing stands e h =
      subst (KeepsPlace place) (same_doing (doing_of item) doing (sym (ap (option_map doing_of) stands) ∙ e)) h

  last_keeps : (at : ℕ) (op : Operation) (doing : Doing) → at < length code → slice_get code at ≡ Some op → (found : Option Fragment) → marks.instead at ≡ found
      → HasDoing (stand marks at) doing → KeepsPlace (stand marks at) doing
  last_keeps at op doing inside is None none e =
      let kept = instruction_stands operation_codes marks code at op is none in
      let place = stand marks at in
      let last = stand_before marks at in
      let low : first_of marks at ≤ stand marks at = omega arith in
      let high : stand marks at < first_of marks (suc at) = omega (arith, last) in
      by_item place (Keeps kept.over (retargeted (arrive marks) op)) doing kept.stands e
      (operation_moves m.result x y (arrive marks) (x at) (y place) (x (suc at)) (y (next_place items place)) (thrown_from m at) (thrown place) op
      (λ f fit. subst (λ k. IsTrue (fits_known k f)) (known_is marks x (length code) at place inside low high) fit)
      (λ falls f fit. subst (λ (n : ℕ). IsTrue (fits_known (y n) f)) (sym (kept.leads falls)) (gives_fall (suc at) f fit))
      gives_arrive (catches_there at place low high) (keeps.stays at op (record { stands = is; alone = none })))
  last_keeps at op doing inside is (Some piece) some e =
      let put = instead_stands operation_codes marks code at op piece is some in
      let last = stand_before marks at in
      by_item (stand marks at) (Puts put.over piece) doing put.stands e
      (piece_keeps at (stand marks at) piece (marks.completes piece) (fall_to marks (suc at)) (x (suc at)) inside (omega arith) (omega (arith, last)) put (λ c. gives_fall (suc at))
      (keeps.pieces.instead at piece some))

  part_keeps : (at place : ℕ) (op : Operation) (doing : Doing) → at < length code → slice_get code at ≡ Some op → first_of marks at ≤ place → place < first_of marks (suc at)
      → Part marks at place → HasDoing place doing → KeepsPlace place doing
  part_keeps at place op doing inside is low high (EntryPart k piece get there) e =
      let put = subst (λ (p : ℕ). IsPut items p piece (marks.completes piece) (arrive marks at)) (sym there) (entry_stands operation_codes marks code at k op piece is get) in
      by_item place (Puts put.over piece) doing put.stands e
      (piece_keeps at place piece (marks.completes piece) (arrive marks at) (x at) inside low high put (λ c. gives_arrive at) (keeps.pieces.entries at k piece get))
  part_keeps at place op doing inside is low high (PassedPart k piece get there) e =
      let put = subst (λ (p : ℕ). IsPut items p piece true (suc p)) (sym there) (passed_stands operation_codes marks code at k op piece is get) in
      let here = slice_get_within (marks.passed at) k piece get in
      by_item place (Puts put.over piece) doing put.stands e
      (piece_keeps at place piece true (suc place) (x at) inside low high put (λ c. gives_place at (suc place) (omega (arith, low)) (omega (arith, there, here)))
      (keeps.pieces.passed at k piece get))
  part_keeps at place op doing inside is low high (MetPart k piece get there) e =
      let put = subst (λ (p : ℕ). IsPut items p piece true (suc p)) (sym there) (met_stands operation_codes marks code at k op piece is get) in
      let here = slice_get_within (marks.met at) k piece get in
      by_item place (Puts put.over piece) doing put.stands e
      (piece_keeps at place piece true (suc place) (x at) inside low high put (λ c. gives_place at (suc place) (omega (arith, low)) (omega (arith, there, here)))
      (keeps.pieces.met at k piece get))
  part_keeps at place op doing inside is low high (LastPart there) e =
      subst (λ (p : ℕ). HasDoing p doing → KeepsPlace p doing) (sym there) (last_keeps at op doing inside is (marks.instead at) refl) e

  -- the jump before all, which passes what is in the way of handlers
  lead_keeps : (place : ℕ) (doing : Doing) (entries : ℕ) → length (marks.entries 0) ≡ entries → place < first_of marks 0 → HasDoing place doing → KeepsPlace place doing
  lead_keeps place doing zero none low e =
      let first : first_of marks 0 ≡ 0 = ap lead_width none in
      absurd (omega (arith, low, first))
  lead_keeps place doing (suc more) some low e =
      let first : first_of marks 0 ≡ 1 = ap lead_width some in
      let zero_place : place ≡ 0 = omega (arith, low, first) in
      let stands = ap (slice_get items) zero_place ∙ lead_stands operation_codes marks code more some in
      by_item place (Keeps 0 (Goto (fall_to marks 0))) doing stands e
      (λ classes frame outside fit. gives_fall 0 frame (front_fits marks x (length code) place frame (omega (arith, low)) fit))

  index_keeps : (place : ℕ) (doing : Doing) → HasDoing place doing → first_of marks 0 ≤ place → (place < first_of marks (length code)) ⊎ (first_of marks (length code) ≤ place)
      → KeepsPlace place doing
  index_keeps place doing e low (inr behind) =
      nothing_keeps m.result y (y place) (y (next_place items place)) (thrown place) doing (known_past marks x (length code) place behind)
  index_keeps place doing e low (inl high) =
      let found = index_within marks (length code) place low high in
      let inside = found.1 in
      let op = thing_at code found.0 inside in
      part_keeps found.0 place op.0 doing inside op.1 found.2 found.3 (part_at marks found.0 place found.2 found.3) e

  place_keeps : (place : ℕ) (doing : Doing) → HasDoing place doing → (place < first_of marks 0) ⊎ (first_of marks 0 ≤ place) → KeepsPlace place doing
  place_keeps place doing e (inl lead) = lead_keeps place doing (length (marks.entries 0)) refl lead e
  place_keeps place doing e (inr low) = index_keeps place doing e low (less_or_not place (first_of marks (length code)))

  -- nothing is done behind the items
  none_there : (place : ℕ) → option_map doing_of (slice_get items place) ≡ None → (place < first_of marks (length code)) ⊎ (first_of marks (length code) ≤ place) → y place ≡ Nothing
  none_there place e (inr behind) = known_past marks x (length code) place behind
  none_there place e (inl high) =
      let size = marked_length operation_codes marks code in
      let item = thing_at items place (omega (arith, high, size)) in
      absurd (none_some (doing_of item.0) (sym (ap (option_map doing_of) item.1) ∙ e))

  pub marked_shaped : IsShaped m.result y (marked m.program marks)
  marked_shaped =
      record {
        each = λ place doing e. place_keeps place doing e (less_or_not place (first_of marks 0));
        inside = λ place e. none_there place e (less_or_not place (first_of marks (length code)));
      }

  -- ---- the items fit

  module _ (limit : ℕ) (fits : FitsMarked limit m x marks) where
    FitsPlace : ℕ → Item Operation Fragment → Type 0
    FitsPlace place item = FitsItem limit (fits_known (y place)) item

    piece_fits : (at place over : ℕ) (piece : Fragment) (item : Item Operation Fragment) → y place ≡ x at → slice_get items place ≡ Some (Puts over piece)
        → slice_get items place ≡ Some item → FitsPiece limit (x at) piece → FitsPlace place item
    unfolding FitsPlace
    piece_fits at place over piece item known stands e fit =
        let means = subst (λ k. BlockMeans limit (fits_known k) piece.block piece.meaning) (sym known) fit.means in
        subst (FitsItem limit (fits_known (y place))) (same_item (Puts over piece) item (sym stands ∙ e)) (means, fit.within)

    last_fits : (at : ℕ) (op : Operation) (item : Item Operation Fragment) → at < length code → slice_get code at ≡ Some op → (found : Option Fragment) → marks.instead at ≡ found
        → slice_get items (stand marks at) ≡ Some item → FitsPlace (stand marks at) item
    unfolding FitsPlace
    last_fits at op item inside is None none e =
        let kept = instruction_stands operation_codes marks code at op is none in
        subst (FitsItem limit (fits_known (y (stand marks at)))) (same_item (Keeps kept.over (retargeted (arrive marks) op)) item (sym kept.stands ∙ e))
        (uses_retargeted limit (arrive marks) op (fits.stays at op (record { stands = is; alone = none })))
    last_fits at op item inside is (Some piece) some e =
        let put = instead_stands operation_codes marks code at op piece is some in
        let last = stand_before marks at in
        piece_fits at (stand marks at) put.over piece item (known_is marks x (length code) at (stand marks at) inside (omega arith) (omega (arith, last))) put.stands e
        (fits.instead at piece some)

    part_fits : (at place : ℕ) (op : Operation) (item : Item Operation Fragment) → at < length code → slice_get code at ≡ Some op → y place ≡ x at
        → Part marks at place → slice_get items place ≡ Some item → FitsPlace place item
    part_fits at place op item inside is known (EntryPart k piece get there) e =
        let put = entry_stands operation_codes marks code at k op piece is get in
        piece_fits at place put.over piece item known (ap (slice_get items) there ∙ put.stands) e (fits.entries at k piece get)
    part_fits at place op item inside is known (PassedPart k piece get there) e =
        let put = passed_stands operation_codes marks code at k op piece is get in
        piece_fits at place put.over piece item known (ap (slice_get items) there ∙ put.stands) e (fits.passed at k piece get)
    part_fits at place op item inside is known (MetPart k piece get there) e =
        let put = met_stands operation_codes marks code at k op piece is get in
        piece_fits at place put.over piece item known (ap (slice_get items) there ∙ put.stands) e (fits.met at k piece get)
    part_fits at place op item inside is known (LastPart there) e =
        subst (λ (p : ℕ). slice_get items p ≡ Some item → FitsPlace p item) (sym there) (last_fits at op item inside is (marks.instead at) refl) e

    lead_fits : (place : ℕ) (item : Item Operation Fragment) (entries : ℕ) → length (marks.entries 0) ≡ entries → place < first_of marks 0 → slice_get items place ≡ Some item
        → FitsPlace place item
    unfolding FitsPlace
    lead_fits place item zero none low e =
        let first : first_of marks 0 ≡ 0 = ap lead_width none in
        absurd (omega (arith, low, first))
    lead_fits place item (suc more) some low e =
        let first : first_of marks 0 ≡ 1 = ap lead_width some in
        let zero_place : place ≡ 0 = omega (arith, low, first) in
        let stands = ap (slice_get items) zero_place ∙ lead_stands operation_codes marks code more some in
        subst (FitsItem limit (fits_known (y place))) (same_item (Keeps 0 (Goto (fall_to marks 0))) item (sym stands ∙ e)) tt

    index_fits : (place : ℕ) (item : Item Operation Fragment) → slice_get items place ≡ Some item → (place < first_of marks 0) ⊎ (first_of marks 0 ≤ place) → FitsPlace place item
    index_fits place item e (inl lead) = lead_fits place item (length (marks.entries 0)) refl lead e
    index_fits place item e (inr low) =
        let size = marked_length operation_codes marks code in
        let within = slice_get_within items place item e in
        let found = index_within marks (length code) place low (omega (arith, size, within)) in
        let inside = found.1 in
        let op = thing_at code found.0 inside in
        part_fits found.0 place op.0 item inside op.1 (known_is marks x (length code) found.0 place inside found.2 found.3) (part_at marks found.0 place found.2 found.3) e

    pub each_fits : (place : ℕ) (item : Item Operation Fragment) → slice_get items place ≡ Some item → FitsItem limit (fits_known (y place)) item
    unfolding FitsPlace
    each_fits place item e = index_fits place item e (less_or_not place (first_of marks 0))
