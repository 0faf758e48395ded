-- What blocks know, where they stand.
use Rattle.std.proofs.Common.{◌≡◌, ℕ, zero, suc, ◌+◌, ◌-◌, ◌<◌, List, [], ◌∷◌, ◌++◌, length, map, filter, refl, ap, ◌∙◌, arith}
use Rattle.std.specs.Prelude.{Bool, true, false, cond, nat_lt, find, Option, Some, None, option_map}
use Rattle.std.specs.List.{AllByRecursion}
use Rattle.std.proofs.lemmas.Bool.{leb-false}
use Rattle.je_instr.specs.declared.instr.Instr.{Instr}
use Rattle.je_instr.specs.declared.program.Handler.{Handler}
use Rattle.je_shape.specs.declared.slot.Shape.{Shape}
use Rattle.je_shape.specs.declared.slot.Slot.{Slot}
use Rattle.je_shape.specs.declared.slot.Slot.TheVariants.{Uninit}
use Rattle.je_splice.specs.Layout as layout
use Rattle.je_splice.specs.Layout.{width}
use Rattle.je_splice.specs.Marks.{Marks, entry_items, last_item, index_items, lead_items, items_from, marked_items}
use Rattle.je_splice.specs.InstrCodes.{instr_codes}
use Rattle.je_splice.specs.Put.{is_passed, is_met, is_instead, leads_to}
use Rattle.je_put.specs.declared.block.Block.{Block}
use Rattle.je_put.specs.declared.block.EntryBlock.{EntryBlock}
use Rattle.je_put.specs.declared.block.PlaceBlock.{PlaceBlock}
use Rattle.je_put.specs.declared.items.Item.{Item}
use Rattle.je_put.specs.declared.items.Item.TheVariants.{Jumps, Keeps, Puts}
use Rattle.je_put.specs.Placing.{put_at, put_before, block_marks, IsMadeWithin, KnowsMade, BelongsTo}
use Rattle.je_put.specs.Result.{moved_new, moved_slot, moved_shape, shapes_from, with_piece}
use Rattle.je_put.specs.Items.{items_seen}
use Rattle.je_put.specs.Tables.{BelongBelow}
use Rattle.je_put.proofs.ItemsLemmas.{all_append}

abbrev pub SeenBelongs : ℕ → layout.Item Instr Block → Type 0
SeenBelongs count (layout.Keeps over instr) = Unit {0}
SeenBelongs count (layout.Puts over block) = BelongsTo count block

-- ---- what is put belongs to the program

filtered : {A X B : Type 0} (P : B → Type 0) (f : A → X) (piece : X → B) (test : X → Bool) (xs : List A)
    → AllByRecursion (λ a. P (piece (f a))) xs → AllByRecursion P (map piece (filter test (map f xs)))
filtered P f piece test [] all = tt
filtered P f piece test (x ∷ xs) all = by_test (test (f x)) (filtered P f piece test xs all.1) where
  by_test : (t : Bool) → AllByRecursion P (map piece (filter test (map f xs)))
      → AllByRecursion P (map piece (cond t (f x ∷ filter test (map f xs)) (filter test (map f xs))))
  by_test true rest = (all.0, rest)
  by_test false rest = rest

abbrev IfThere : {B : Type 0} → (B → Type 0) → Option B → Type 0
IfThere P None = Unit {0}
IfThere P (Some x) = P x

found : {A X B : Type 0} (P : B → Type 0) (f : A → X) (piece : X → B) (test : X → Bool) (xs : List A)
    → AllByRecursion (λ a. P (piece (f a))) xs → IfThere P (option_map piece (find test (map f xs)))
found P f piece test [] all = tt
found P f piece test (x ∷ xs) all = by_test (test (f x)) (found P f piece test xs all.1) where
  by_test : (t : Bool) → IfThere P (option_map piece (find test (map f xs)))
      → IfThere P (option_map piece (cond t (Some (f x)) (find test (map f xs))))
  by_test true rest = all.0
  by_test false rest = rest

entries_belong : (count passed : ℕ) (m : Marks Block Handler) (xs : List Block) → AllByRecursion (BelongsTo count) xs
    → AllByRecursion (SeenBelongs count) (entry_items {A = Instr} m passed xs)
entries_belong count passed m [] all = tt
entries_belong count passed m (x ∷ xs) all = (all.0, entries_belong count passed m xs all.1)

puts_belong : (count : ℕ) (xs : List Block) → AllByRecursion (BelongsTo count) xs
    → AllByRecursion (SeenBelongs count) (map (λ (b : Block). layout.Puts 0 b) xs)
puts_belong count [] all = tt
puts_belong count (x ∷ xs) all = (all.0, puts_belong count xs all.1)

last_belongs : (count : ℕ) (m : Marks Block Handler) (i : ℕ) (instr : Instr) (o : Option Block) → IfThere (BelongsTo count) o
    → SeenBelongs count (last_item instr_codes m i instr o)
last_belongs count m i instr None h = tt
last_belongs count m i instr (Some x) h = h

module _ (count : ℕ) (places : List PlaceBlock) (entries : List EntryBlock) (placed : AllByRecursion (λ (put : PlaceBlock). BelongsTo count put.block) places)
    (entered : AllByRecursion (λ (put : EntryBlock). BelongsTo count put.block) entries) where
  abbrev m : Marks Block Handler
  m = block_marks places entries

  index_belongs : (i : ℕ) (instr : Instr) → AllByRecursion (SeenBelongs count) (index_items instr_codes m i instr)
  index_belongs i instr =
      let P : layout.Item Instr Block → Type 0 = SeenBelongs count in
      all_append P (entry_items m (length (m.passed i)) (m.entries i)) _
      (entries_belong count (length (m.passed i)) m (m.entries i) (filtered (BelongsTo count) put_before (λ put. put.piece) (leads_to i) entries entered))
      (all_append P (map (λ (b : Block). layout.Puts 0 b) (m.passed i)) _ (puts_belong count (m.passed i) (filtered (BelongsTo count) put_at (λ put. put.piece) (is_passed i) places placed))
      (all_append P (map (λ (b : Block). layout.Puts 0 b) (m.met i)) _ (puts_belong count (m.met i) (filtered (BelongsTo count) put_at (λ put. put.piece) (is_met i) places placed))
      (last_belongs count m i instr (m.instead i) (found (BelongsTo count) put_at (λ put. put.piece) (is_instead i) places placed), tt)))

  from_belongs : (i : ℕ) (code : List Instr) → AllByRecursion (SeenBelongs count) (items_from instr_codes m i code)
  from_belongs i [] = tt
  from_belongs i (instr ∷ code) =
      all_append (SeenBelongs count) (index_items instr_codes m i instr) (items_from instr_codes m (suc i) code) (index_belongs i instr) (from_belongs (suc i) code)

  lead_belongs : (n : ℕ) → AllByRecursion (SeenBelongs count) (lead_items {X = Block} instr_codes n)
  lead_belongs zero = tt
  lead_belongs (suc n) = (tt, tt)

  pub marked_belong : (code : List Instr) → AllByRecursion (SeenBelongs count) (marked_items instr_codes m code)
  marked_belong code = all_append (SeenBelongs count) (lead_items instr_codes (length (m.entries 0))) (items_from instr_codes m 0 code) (lead_belongs (length (m.entries 0))) (from_belongs 0 code)

pub seen_belong : (count : ℕ) (m : Marks Block Handler) (items : List Item) → AllByRecursion (SeenBelongs count) (items_seen m items) → AllByRecursion (BelongBelow count) items
seen_belong count m [] all = tt
seen_belong count m (Jumps place ∷ items) all = (tt, seen_belong count m items all.1)
seen_belong count m (Keeps over instr ∷ items) all = (tt, seen_belong count m items all.1)
seen_belong count m (Puts over block ∷ items) all = (all.0, seen_belong count m items all.1)

-- ---- shapes by tables that agree

module _ (f g : ℕ → ℕ) (count : ℕ) (same : (k : ℕ) → k < count → f k ≡ g k) where
  new_agrees : (at size k : ℕ) → k < size + count → moved_new f at size k ≡ moved_new g at size k
  new_agrees at size k within = by_test (nat_lt k size) refl where
    by_test : (t : Bool) → nat_lt k size ≡ t → cond t (at + k) (f (k - size)) ≡ cond t (at + k) (g (k - size))
    by_test true e = refl
    by_test false e = let behind = leb-false (suc k) size e in same (k - size) (omega (arith, within, behind))

  slot_agrees : (at size : ℕ) (slot : Slot) → IsMadeWithin size count slot → moved_slot f at size slot ≡ moved_slot g at size slot
  slot_agrees at size (Uninit k) within = ap (λ (n : ℕ). Uninit n) (new_agrees at size k within)
  slot_agrees at size _ within = refl

  slots_agree : (at size : ℕ) (slots : List Slot) → AllByRecursion (IsMadeWithin size count) slots
      → map (moved_slot f at size) slots ≡ map (moved_slot g at size) slots
  slots_agree at size [] all = refl
  slots_agree at size (slot ∷ slots) all =
      ap (λ s. s ∷ map (moved_slot f at size) slots) (slot_agrees at size slot all.0) ∙ ap (λ l. moved_slot g at size slot ∷ l) (slots_agree at size slots all.1)

  abbrev known_with : ℕ → List Slot → List Slot → ℕ × Shape
  known_with index stack locals = (index, record { stack = stack; locals = locals })

  shapes_agree : (at size : ℕ) (shapes : List (ℕ × Shape)) → AllByRecursion (KnowsMade size count) shapes
      → map (moved_shape f at size) shapes ≡ map (moved_shape g at size) shapes
  shapes_agree at size [] all = refl
  shapes_agree at size (known ∷ shapes) all =
      ap (λ (l : List Slot). known_with (at + known.0) l (map (moved_slot f at size) known.1.locals) ∷ map (moved_shape f at size) shapes) (slots_agree at size known.1.stack all.0.0)
      ∙ ap (λ (l : List Slot). known_with (at + known.0) (map (moved_slot g at size) known.1.stack) l ∷ map (moved_shape f at size) shapes) (slots_agree at size known.1.locals all.0.1)
      ∙ ap (λ l. moved_shape g at size known ∷ l) (shapes_agree at size shapes all.1)

  pub from_agrees : (at : ℕ) (items : List (layout.Item Instr Block)) → AllByRecursion (SeenBelongs count) items → shapes_from f at items ≡ shapes_from g at items
  from_agrees at [] all = refl
  from_agrees at (layout.Keeps over instr ∷ items) all = from_agrees (at + width (with_piece (layout.Keeps over instr))) items all.1
  from_agrees at (layout.Puts over block ∷ items) all =
      ap (λ l. l ++ shapes_from f (at + width (with_piece (layout.Puts over block))) items) (shapes_agree at (length block.instrs) block.shapes all.0)
      ∙ ap (λ l. map (moved_shape g at (length block.instrs)) block.shapes ++ l) (from_agrees (at + width (with_piece (layout.Puts over block))) items all.1)
