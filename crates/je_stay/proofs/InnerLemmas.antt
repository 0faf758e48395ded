-- Code that is laid out keeps to shapes where its items do, inside blocks too.
use Rattle.std.proofs.Common.{◌≡◌, ℕ, zero, suc, ◌+◌, ◌-◌, ◌<◌, ◌≤◌, ◌⊎◌, inl, inr, List, [], ◌∷◌, length, Option, Some, None, refl, sym, ap, subst, ◌∙◌, arith}
use Rattle.std.specs.Prelude.{IsTrue, IfSome, option_map, nat_lt, slice_get}
use Rattle.std.specs.Option.{option_or}
use Rattle.std.proofs.lemmas.Bool.{lt-ltb, le-ltb}
use Rattle.std.proofs.lemmas.Option.{slice_get_within}
use Rattle.je_machine.specs.Value.{Kind, Value}
use Rattle.je_machine.specs.Heap.{Heap}
use Rattle.je_machine.specs.Classes.{Classes}
use Rattle.je_machine.specs.Operation.{Operation, Goto, Handler}
use Rattle.je_machine.specs.Frame.{Frame, frame_of, Flow, Falls, Jumps, Leaves, Raises, Halts, perform}
use Rattle.je_machine.specs.Machine.{Outer, catcher}
use Rattle.je_machine.specs.Moved.{retargeted, moved_flow}
use Rattle.je_machine.proofs.MovedLemmas.{perform_retargeted}
use Rattle.je_shape.specs.Shape.{Known, Nothing}
use Rattle.je_shape.specs.Least.{Assignment}
use Rattle.je_fit.specs.Fits.{fits_known}
use Rattle.je_splice.specs.Block.{Block}
use Rattle.je_splice.specs.Reference.{Performs}
use Rattle.je_splice.specs.Layout.{operation_codes, Item, Keeps, Puts, over_of, Within, body_width, jump_width, width, moved_to, laid_code, laid_handlers}
use Rattle.je_splice.proofs.LayoutLemmas.{get_mapped, body_stands, jump_stands, laid_length, next_begins}
use Rattle.je_splice.proofs.LaidLemmas.{instruction_throws, piece_throws}
use Rattle.je_stay.specs.Keeping.{ThrowKeeps, PerformKeeps, DoingKeeps}
use Rattle.je_stay.specs.Inner.{known_of_item, known_along, OwnThrowKeeps, InnerKeeps, Gives, BlockKeeps, CodeKeeps, LaidKeeps, ProgramKeeps}
use Rattle.je_stay.proofs.ReferenceLemmas.{less_or_not, nothing_fits}
use Rattle.je_stay.proofs.PlaceLemmas.{chosen_first, chosen_second, thing_at}
use Rattle.je_stay.proofs.MarkedLemmas.{operation_moves}

abbrev It : Type 0
It = Item Operation Block

item_same : (a b : It) → Some a ≡ Some b → a ≡ b
item_same a b e = cc

op_same : (a b : Operation) → Some a ≡ Some b → a ≡ b
op_same a b e = cc

moves : (k l : Known) (f : Frame) → k ≡ l → IsTrue (fits_known k f) → IsTrue (fits_known l f)
moves k l f e h = subst (λ k. IsTrue (fits_known k f)) e h

no_width : (over : ℕ) → jump_width over ≡ 0 → over ≡ 0
no_width zero e = refl
no_width (suc over) e = absurd (omega (arith, e))

jump_less : (over : ℕ) → jump_width over ≤ 1
jump_less zero = omega arith
jump_less (suc over) = omega arith

-- ---- which item an index is of

record Located (items : List It) (index : ℕ) : Type 0 where
  place : ℕ
  item : It
  k : ℕ
  there : slice_get items place ≡ Some item
  less : k < width item
  is : index ≡ moved_to items place + k

located_on : (x : It) (items : List It) (index : ℕ) → width x ≤ index → Located items (index - width x) → Located (x ∷ items) index
located_on x items index le l = record { place = suc l.place; item = l.item; k = l.k; there = l.there; less = l.less; is = let e = l.is in omega (arith, e, le) }

located : (items : List It) (index : ℕ) → index < moved_to items (length items) → Located items index
located [] index less = absurd (omega (arith, less))
located (x ∷ items) index less =
    elim (less_or_not index (width x)) [
      | inl here ↦ record { place = 0; item = x; k = index; there = refl; less = here; is = omega arith }
      | inr le ↦ located_on x items index le (located items (index - width x) (omega (arith, less, le)))
    ]

module _ (x : Assignment) (inner : ℕ → Assignment) where
  -- ---- what is known at an index of an item

  known_there : (items : List It) (base place k : ℕ) (item : It) → slice_get items place ≡ Some item → k < width item
      → known_along x inner base items (moved_to items place + k) ≡ known_of_item x (inner (base + place)) (base + place) item k
  known_there [] base place k item is less = absurd cc
  known_there (y ∷ items) base zero k item is less =
      let same : y ≡ item = item_same y item is in
      let none : base + 0 ≡ base = omega arith in
      let size : width y ≡ width item = ap width same in
      let index : 0 + k ≡ k = omega arith in
      ap (known_along x inner base (y ∷ items)) index
      ∙ chosen_first (nat_lt k (width y)) (known_of_item x (inner base) base y k) (known_along x inner (suc base) items (k - width y)) (lt-ltb k (width y) (omega (arith, less, size)))
      ∙ ap (λ i. known_of_item x (inner base) base i k) same
      ∙ ap (λ (b : ℕ). known_of_item x (inner b) b item k) (sym none)
  known_there (y ∷ items) base (suc place) k item is less =
      let index = width y + moved_to items place + k in
      let next : suc base + place ≡ base + suc place = omega arith in
      let rest : index - width y ≡ moved_to items place + k = omega arith in
      chosen_second (nat_lt index (width y)) (known_of_item x (inner base) base y index) (known_along x inner (suc base) items (index - width y)) (le-ltb index (width y) (omega arith))
      ∙ ap (known_along x inner (suc base) items) rest
      ∙ known_there items (suc base) place k item is less
      ∙ ap (λ (b : ℕ). known_of_item x (inner b) b item k) next

  known_past : (items : List It) (base index : ℕ) → moved_to items (length items) ≤ index → known_along x inner base items index ≡ Nothing
  known_past [] base index le = refl
  known_past (y ∷ items) base index le =
      chosen_second (nat_lt index (width y)) (known_of_item x (inner base) base y index) (known_along x inner (suc base) items (index - width y)) (le-ltb index (width y) (omega (arith, le)))
      ∙ known_past items (suc base) (index - width y) (omega (arith, le))

  -- ---- from what is known of a place to what is known where it begins

  -- a block without code leads on
  Leads : ℕ → It → Type 0
  Leads place (Keeps over op) = Unit {0}
  Leads place (Puts over block) = Gives (x place) (inner place 0) × Gives (inner place (length block.code)) (x (suc place + over))

  LeadAlong : ℕ → List It → Type 0
  LeadAlong base [] = x base ≡ Nothing
  LeadAlong base (item ∷ items) = Leads base item × LeadAlong (suc base) items

  puts_begin : (base over n : ℕ) (block : Block) (items : List It) → length block.code ≡ n → Leads base (Puts over block)
      → Gives (x (suc base)) (known_along x inner (suc base) items 0) → Gives (x base) (known_along x inner base (Puts over block ∷ items) 0)
  unfolding Leads
  puts_begin base over (suc n) block items e leads on f fit =
      let less : 0 < length block.code = omega (arith, e) in
      let wide : 0 < width {A = Operation} {H = Handler} (Puts over block) = omega (arith, less) in
      moves (inner base 0) (known_along x inner base (Puts over block ∷ items) 0) f
      (sym (chosen_first (nat_lt 0 (width {A = Operation} {H = Handler} (Puts over block))) (known_of_item x (inner base) base (Puts over block) 0)
      (known_along x inner (suc base) items (0 - width {A = Operation} {H = Handler} (Puts over block))) (lt-ltb 0 (width {A = Operation} {H = Handler} (Puts over block)) wide)
      ∙ chosen_first (nat_lt 0 (length block.code)) (inner base 0) (x (suc base + over)) (lt-ltb 0 (length block.code) less)))
      (leads.0 f fit)
  puts_begin base zero zero block items e leads on f fit =
      let none : width {A = Operation} {H = Handler} (Puts 0 block) ≡ 0 = omega (arith, e) in
      let next : suc base + 0 ≡ suc base = omega arith in
      let after = leads.1 f (moves (inner base 0) (inner base (length block.code)) f (ap (inner base) (sym e)) (leads.0 f fit)) in
      let index : 0 - width {A = Operation} {H = Handler} (Puts 0 block) ≡ 0 = omega arith in
      moves (known_along x inner (suc base) items 0) (known_along x inner base (Puts 0 block ∷ items) 0) f
      (sym (chosen_second (nat_lt 0 (width {A = Operation} {H = Handler} (Puts 0 block))) (known_of_item x (inner base) base (Puts 0 block) 0)
      (known_along x inner (suc base) items (0 - width {A = Operation} {H = Handler} (Puts 0 block))) (le-ltb 0 (width {A = Operation} {H = Handler} (Puts 0 block)) (omega (arith, none)))
      ∙ ap (known_along x inner (suc base) items) index))
      (on f (moves (x (suc base + 0)) (x (suc base)) f (ap x next) after))
  puts_begin base (suc over) zero block items e leads on f fit =
      let after = leads.1 f (moves (inner base 0) (inner base (length block.code)) f (ap (inner base) (sym e)) (leads.0 f fit)) in
      let wide : 0 < width {A = Operation} {H = Handler} (Puts (suc over) block) = omega arith in
      moves (x (suc base + suc over)) (known_along x inner base (Puts (suc over) block ∷ items) 0) f
      (sym (chosen_first (nat_lt 0 (width {A = Operation} {H = Handler} (Puts (suc over) block))) (known_of_item x (inner base) base (Puts (suc over) block) 0)
      (known_along x inner (suc base) items (0 - width {A = Operation} {H = Handler} (Puts (suc over) block)))
      (lt-ltb 0 (width {A = Operation} {H = Handler} (Puts (suc over) block)) wide)
      ∙ chosen_second (nat_lt 0 (length block.code)) (inner base 0) (x (suc base + suc over)) (le-ltb 0 (length block.code) (omega (arith, e)))))
      after

  keeps_begin : (base over : ℕ) (op : Operation) (items : List It) → Gives (x base) (known_along x inner base (Keeps over op ∷ items) 0)
  keeps_begin base over op items f fit =
      let wide : 0 < width {A = Operation} {H = Handler} (Keeps over op) = omega arith in
      moves (x base) (known_along x inner base (Keeps over op ∷ items) 0) f
      (sym (chosen_first (nat_lt 0 (width {A = Operation} {H = Handler} (Keeps over op))) (known_of_item x (inner base) base (Keeps over op) 0)
      (known_along x inner (suc base) items (0 - width {A = Operation} {H = Handler} (Keeps over op))) (lt-ltb 0 (width {A = Operation} {H = Handler} (Keeps over op)) wide)))
      fit

  begins_along : (items : List It) (base : ℕ) → LeadAlong base items → Gives (x base) (known_along x inner base items 0)
  unfolding LeadAlong
  begins_along [] base lead f fit = absurd (nothing_fits (x base) f lead fit)
  begins_along (Keeps over op ∷ items) base lead f fit = keeps_begin base over op items f fit
  begins_along (Puts over block ∷ items) base lead f fit =
      puts_begin base over (length block.code) block items refl lead.0 (λ g h. begins_along items (suc base) lead.1 g h) f fit

  starts_along : (items : List It) (base place : ℕ) → LeadAlong base items → ((at : ℕ) → base + length items ≤ at → x at ≡ Nothing)
      → Gives (x (base + place)) (known_along x inner base items (moved_to items place))
  unfolding LeadAlong
  starts_along items base zero lead past f fit =
      let none : base + 0 ≡ base = omega arith in
      begins_along items base lead f (moves (x (base + 0)) (x base) f (ap x none) fit)
  starts_along [] base (suc place) lead past f fit = absurd (nothing_fits (x (base + suc place)) f (past (base + suc place) (omega arith)) fit)
  starts_along (y ∷ items) base (suc place) lead past f fit =
      let next : base + suc place ≡ suc base + place = omega arith in
      let index = width y + moved_to items place in
      let rest : index - width y ≡ moved_to items place = omega arith in
      moves (known_along x inner (suc base) items (moved_to items place)) (known_along x inner base (y ∷ items) index) f
      (sym (chosen_second (nat_lt index (width y)) (known_of_item x (inner base) base y index) (known_along x inner (suc base) items (index - width y)) (le-ltb index (width y) (omega arith))
      ∙ ap (known_along x inner (suc base) items) rest))
      (starts_along items (suc base) place lead.1 (λ at le. past at (omega (arith, le))) f (moves (x (base + suc place)) (x (suc base + place)) f (ap x next) fit))

-- ---- what a block's instruction comes to, where the block stands

own_moves : (x z inn : Assignment) (move to : ℕ → ℕ) (own outer : Option ℕ) (v : Value) (locals : List Value) → ((t : ℕ) → Gives (inn t) (z (move t))) → ((t : ℕ) → Gives (x t) (z (to t)))
    → OwnThrowKeeps x inn own outer v locals → ThrowKeeps z (option_or (option_map move own) (option_map to outer)) v locals
own_moves x z inn move to (Some own) outer v locals placed starts h = (h.0, placed own (frame_of (v ∷ []) locals) h.1)
own_moves x z inn move to None (Some outer) v locals placed starts h = (h.0, starts outer (frame_of (v ∷ []) locals) h.1)
own_moves x z inn move to None None v locals placed starts h = (h.0, tt)

inner_moves : (kind : Option (Option Kind)) (x z inn : Assignment) (move to : ℕ → ℕ) (next there : Known) (own outer other : Outer) (locals : List Value) (flow : Flow)
    → Gives next there → ((t : ℕ) → Gives (inn t) (z (move t))) → ((t : ℕ) → Gives (x t) (z (to t)))
    → ((heap : Heap) (v : Value) → other heap v ≡ option_or (option_map move (own heap v)) (option_map to (outer heap v)))
    → InnerKeeps kind x inn next own outer locals flow → PerformKeeps kind z there other locals (moved_flow move flow)
inner_moves kind x z inn move to next there own outer other locals (Falls f o) gives placed starts throws h = gives f h
inner_moves kind x z inn move to next there own outer other locals (Jumps target f o) gives placed starts throws h = placed target f h
inner_moves kind x z inn move to next there own outer other locals (Leaves result o) gives placed starts throws h = h
inner_moves kind x z inn move to next there own outer other locals (Raises v o) gives placed starts throws h =
    subst (λ (t : Option ℕ). ThrowKeeps z t v locals) (sym (throws o.heap v)) (own_moves x z inn move to (own o.heap v) (outer o.heap v) v locals placed starts h)
inner_moves kind x z inn move to next there own outer other locals (Halts o) gives placed starts throws h = tt

-- ---- the whole

module _ (kind : Option (Option Kind)) (x : Assignment) (inner : ℕ → Assignment) (items : List It) (handlers : List Handler) (keeps : LaidKeeps kind x inner items handlers) where
  abbrev z : Assignment
  z = known_along x inner 0 items

  abbrev to : ℕ → ℕ
  to = moved_to items

  abbrev code : List Operation
  code = laid_code operation_codes items

  abbrev table : List Handler
  table = laid_handlers operation_codes items handlers

  abbrev thrown : ℕ → Classes → Outer
  thrown place classes = catcher handlers classes place

  within_by : (place : ℕ) (item : It) → CodeKeeps kind x (inner place) place (thrown place) item → Within item
  within_by place (Keeps over op) k = tt
  within_by place (Puts over block) k = k.within

  within : (place : ℕ) (item : It) → slice_get items place ≡ Some item → Within item
  within place item is = within_by place item (keeps.each place item is)

  leads_by : (place : ℕ) (item : It) → CodeKeeps kind x (inner place) place (thrown place) item → Leads x inner place item
  unfolding Leads
  leads_by place (Keeps over op) k = tt
  leads_by place (Puts over block) k = (k.begins, k.ends)

  leads_along : (rest : List It) (base : ℕ) → ((place : ℕ) (item : It) → slice_get rest place ≡ Some item → Leads x inner (base + place) item) → x (base + length rest) ≡ Nothing
      → LeadAlong x inner base rest
  unfolding LeadAlong
  leads_along [] base each past = let none : base ≡ base + 0 = omega arith in ap x none ∙ past
  leads_along (item ∷ rest) base each past =
      let none : base + 0 ≡ base = omega arith in
      let next : suc base + length rest ≡ base + suc (length rest) = omega arith in (
        subst (λ (b : ℕ). Leads x inner b item) none (each 0 item refl),
        leads_along rest (suc base)
            (λ place other is. let more : base + suc place ≡ suc base + place = omega arith in subst (λ (b : ℕ). Leads x inner b other) more (each (suc place) other is)) (ap x next ∙ past),
      )

  all_lead : LeadAlong x inner 0 items
  all_lead =
      leads_along items 0
      (λ place item is. let none : place ≡ 0 + place = omega arith in subst (λ (b : ℕ). Leads x inner b item) none (leads_by place item (keeps.each place item is)))
      (keeps.behind (0 + length items) (omega arith))

  starts : (place : ℕ) → Gives (x place) (z (to place))
  starts place f fit =
      let none : place ≡ 0 + place = omega arith in
      starts_along x inner items 0 place all_lead (λ at le. keeps.behind at (omega (arith, le))) f (moves (x place) (x (0 + place)) f (ap x none) fit)

  at_item : (place k : ℕ) (item : It) → slice_get items place ≡ Some item → k < width item → z (to place + k) ≡ known_of_item x (inner place) place item k
  at_item place k item is less =
      let none : 0 + place ≡ place = omega arith in
      known_there x inner items 0 place k item is less ∙ ap (λ (b : ℕ). known_of_item x (inner b) b item k) none

  at_first : (place over : ℕ) (op : Operation) → slice_get items place ≡ Some (Keeps over op) → z (to place) ≡ x place
  at_first place over op is =
      let none : to place ≡ to place + 0 = omega arith in
      ap z none ∙ at_item place 0 (Keeps over op) is (omega arith)

  -- where what an item leads to begins, or its jump stands
  behind_kept : (place over : ℕ) (op : Operation) → slice_get items place ≡ Some (Keeps over op) → Gives (x (suc place + over)) (z (suc (to place)))
  behind_kept place zero op is f fit =
      let begins = next_begins items place (Keeps 0 op) is in
      let index : to (suc place) ≡ suc (to place) = omega (arith, begins) in
      let none : suc place + 0 ≡ suc place = omega arith in
      moves (z (to (suc place))) (z (suc (to place))) f (ap z index) (starts (suc place) f (moves (x (suc place + 0)) (x (suc place)) f (ap x none) fit))
  behind_kept place (suc over) op is f fit =
      let index : to place + 1 ≡ suc (to place) = omega arith in
      moves (x (suc place + suc over)) (z (suc (to place))) f (sym (at_item place 1 (Keeps (suc over) op) is (omega arith)) ∙ ap z index) fit

  behind_put : (place over : ℕ) (block : Block) → slice_get items place ≡ Some (Puts over block) → Gives (x (suc place + over)) (z (to place + length block.code))
  behind_put place zero block is f fit =
      let begins = next_begins items place (Puts 0 block) is in
      let index : to (suc place) ≡ to place + length block.code = omega (arith, begins) in
      let none : suc place + 0 ≡ suc place = omega arith in
      moves (z (to (suc place))) (z (to place + length block.code)) f (ap z index) (starts (suc place) f (moves (x (suc place + 0)) (x (suc place)) f (ap x none) fit))
  behind_put place (suc over) block is f fit =
      moves (x (suc place + suc over)) (z (to place + length block.code)) f
      (sym (at_item place (length block.code) (Puts (suc over) block) is (omega arith)
      ∙ chosen_second (nat_lt (length block.code) (length block.code)) (inner place (length block.code)) (x (suc place + suc over)) (le-ltb (length block.code) (length block.code) (omega arith))))
      fit

  at_inner : (place over k : ℕ) (block : Block) → slice_get items place ≡ Some (Puts over block) → k < length block.code → z (to place + k) ≡ inner place k
  at_inner place over k block is less =
      at_item place k (Puts over block) is (omega (arith, less))
      ∙ chosen_first (nat_lt k (length block.code)) (inner place k) (x (suc place + over)) (lt-ltb k (length block.code) less)

  placed_by : (place over t : ℕ) (block : Block) → slice_get items place ≡ Some (Puts over block) → BlockKeeps kind x (inner place) place (suc place + over) (thrown place) block
      → (t < length block.code) ⊎ (length block.code ≤ t) → (length block.code < t) ⊎ (t ≤ length block.code) → Gives (inner place t) (z (to place + t))
  placed_by place over t block is k (inl less) other f fit = moves (inner place t) (z (to place + t)) f (sym (at_inner place over t block is less)) fit
  placed_by place over t block is k (inr le) (inl more) f fit = absurd (nothing_fits (inner place t) f (k.behind t more) fit)
  placed_by place over t block is k (inr le) (inr most) f fit =
      let same : t ≡ length block.code = omega (arith, le, most) in
      moves (z (to place + length block.code)) (z (to place + t)) f (ap (λ (n : ℕ). z (to place + n)) (sym same))
      (behind_put place over block is f (k.ends f (moves (inner place t) (inner place (length block.code)) f (ap (inner place) same) fit)))

  placed : (place over : ℕ) (block : Block) → slice_get items place ≡ Some (Puts over block) → (t : ℕ) → Gives (inner place t) (z (to place + t))
  placed place over block is t =
      placed_by place over t block is (keeps.each place (Puts over block) is) (less_or_not t (length block.code)) (less_or_not (length block.code) t)

  -- ---- each index

  abbrev KeepsIndex : ℕ → Operation → Type 0
  KeepsIndex index op = DoingKeeps kind z (z index) (z (suc index)) (λ classes. catcher table classes index) (Performs op)

  kept_index : (place over : ℕ) (op : Operation) → slice_get items place ≡ Some (Keeps over op) → KeepsIndex (to place) (retargeted to op)
  kept_index place over op is =
      operation_moves kind x z to (x place) (z (to place)) (x (suc place + over)) (z (suc (to place))) (thrown place) (λ classes. catcher table classes (to place)) op
      (λ f fit. moves (z (to place)) (x place) f (at_first place over op is) fit) (λ falls f fit. behind_kept place over op is f fit) starts
      (λ classes heap v f enters.
      subst (λ (t : Option ℕ). IfSome t (λ n. IsTrue (fits_known (z n) f))) (sym (instruction_throws classes heap v items handlers place over op is within))
      (enters_moved f (catcher handlers classes place heap v) enters))
      (keeps.each place (Keeps over op) is)
    where
      enters_moved : (f : Frame) (target : Option ℕ) → IfSome target (λ n. IsTrue (fits_known (x n) f)) → IfSome (option_map to target) (λ n. IsTrue (fits_known (z n) f))
      enters_moved f None h = tt
      enters_moved f (Some target) h = starts target f h

  jump_index : (place over : ℕ) (item : It) → slice_get items place ≡ Some item → over_of item ≡ suc over → z (to place + body_width item) ≡ x (suc place + over_of item)
      → KeepsIndex (to place + body_width item) (Goto (to (suc place + over_of item)))
  jump_index place over item is e known =
      λ classes frame outside fit. starts (suc place + over_of item) frame (moves (z (to place + body_width item)) (x (suc place + over_of item)) frame known fit)

  put_index : (place over k : ℕ) (block : Block) (op : Operation) → slice_get items place ≡ Some (Puts over block) → slice_get block.code k ≡ Some op
      → KeepsIndex (to place + k) (retargeted (λ t. to place + t) op)
  put_index place over k block op is there =
      let block_keeps : BlockKeeps kind x (inner place) place (suc place + over) (thrown place) block = keeps.each place (Puts over block) is in
      let less = slice_get_within block.code k op there in
      let index : to place + suc k ≡ suc (to place + k) = omega arith in
      λ classes frame outside fit.
      subst (λ flow. PerformKeeps kind z (z (suc (to place + k))) (catcher table classes (to place + k)) frame.locals flow) (sym (perform_retargeted classes (λ t. to place + t) op frame outside))
      (inner_moves kind x z (inner place) (λ t. to place + t) to (inner place (suc k)) (z (suc (to place + k))) (catcher block.handlers classes k) (thrown place classes)
      (catcher table classes (to place + k)) frame.locals (perform classes op frame outside)
      (λ f h. moves (z (to place + suc k)) (z (suc (to place + k))) f (ap z index) (placed place over block is (suc k) f h)) (placed place over block is) starts
      (λ heap v. piece_throws classes heap v items handlers place over k block is within less)
      (block_keeps.each k op there classes frame outside (moves (z (to place + k)) (inner place k) frame (at_inner place over k block is less) fit)))

  by_stands : (index : ℕ) (op other : Operation) → slice_get code index ≡ Some other → slice_get code index ≡ Some op → KeepsIndex index other → KeepsIndex index op
  by_stands index op other stands is h = subst (KeepsIndex index) (op_same other op (sym stands ∙ is)) h

  located_keeps : (place k : ℕ) (item : It) (op : Operation) → slice_get items place ≡ Some item → k < width item → (k < body_width item) ⊎ (body_width item ≤ k)
      → slice_get code (to place + k) ≡ Some op → KeepsIndex (to place + k) op
  located_keeps place k (Keeps zero own) op is less (inr le) e = absurd (omega (arith, less, le))
  located_keeps place zero (Keeps over own) op is less here e =
      let none : to place ≡ to place + 0 = omega arith in
      by_stands (to place + 0) op (retargeted to own) (body_stands operation_codes items place 0 (Keeps over own) (retargeted to own) is refl) e
      (subst (λ (n : ℕ). KeepsIndex n (retargeted to own)) none (kept_index place over own is))
  located_keeps place (suc k) (Keeps over own) op is less (inl here) e = absurd (omega (arith, here))
  located_keeps place (suc k) (Keeps (suc over) own) op is less (inr le) e =
      let one : 1 ≡ suc k = omega (arith, less) in
      subst (λ (n : ℕ). slice_get code (to place + n) ≡ Some op → KeepsIndex (to place + n) op) one
      (λ stands.
      by_stands (to place + 1) op (Goto (to (suc place + suc over))) (jump_stands operation_codes items place over (Keeps (suc over) own) is refl) stands
      (jump_index place over (Keeps (suc over) own) is refl (at_item place 1 (Keeps (suc over) own) is (omega arith)))) e
  located_keeps place k (Puts over block) op is less (inl here) e =
      let own = thing_at block.code k here in
      by_stands (to place + k) op (retargeted (λ t. to place + t) own.0)
      (body_stands operation_codes items place k (Puts over block) (retargeted (λ t. to place + t) own.0) is
      (get_mapped (retargeted (λ t. to place + t)) block.code k ∙ ap (option_map (retargeted (λ t. to place + t))) own.1)) e
      (put_index place over k block own.0 is own.1)
  located_keeps place k (Puts zero block) op is less (inr le) e = absurd (omega (arith, less, le))
  located_keeps place k (Puts (suc over) block) op is less (inr le) e =
      let same : length block.code ≡ k = omega (arith, less, le) in
      let wide : length block.code < width {A = Operation} {H = Handler} (Puts (suc over) block) = omega arith in
      subst (λ (n : ℕ). slice_get code (to place + n) ≡ Some op → KeepsIndex (to place + n) op) same
      (λ stands.
      by_stands (to place + length block.code) op (Goto (to (suc place + suc over))) (jump_stands operation_codes items place over (Puts (suc over) block) is refl) stands
      (jump_index place over (Puts (suc over) block) is refl
      (at_item place (length block.code) (Puts (suc over) block) is wide
      ∙ chosen_second (nat_lt (length block.code) (length block.code)) (inner place (length block.code)) (x (suc place + suc over)) (le-ltb (length block.code) (length block.code) (omega arith))))) e

  index_keeps : (index : ℕ) (op : Operation) → slice_get code index ≡ Some op → KeepsIndex index op
  index_keeps index op is =
      let size = laid_length operation_codes items in
      let l = located items index (omega (arith, size, slice_get_within code index op is)) in
      subst (λ (n : ℕ). slice_get code n ≡ Some op → KeepsIndex n op) (sym l.is)
      (λ there. located_keeps l.place l.k l.item op l.there l.less (less_or_not l.k (body_width l.item)) there) is

  pub laid_keeps : (parameters : List Kind) → ProgramKeeps kind z (record { parameters = parameters; operations = code; handlers = table })
  laid_keeps parameters =
      record {
        each = index_keeps;
        behind = λ index le. let size = laid_length operation_codes items in known_past x inner items 0 index (omega (arith, size, le));
      }

  pub start_fits : (place : ℕ) → Gives (x place) (z (to place))
  start_fits = starts
