-- Instructions and blocks in a row.
use Rattle.std.proofs.Common.{◌≡◌, ℕ, zero, suc, ◌+◌, ◌<◌, ◌≤◌, get_or, drop, drop-cons, List, [], ◌∷◌, ◌++◌, length, map, refl, sym, ap, ◌∙◌, subst, arith, append_assoc}
use Rattle.std.specs.Prelude.{Bool, Some, option_map, slice_get}
use Rattle.std.specs.List.{AllByRecursion}
use denote.Ref.{Bor}
use Rattle.std.proofs.lemmas.List.{append-nil, map-append, length-map}
use Rattle.std.proofs.lemmas.Option.{slice_get-get_or}
use Rattle.je_instr.specs.declared.instr.Instr.{Instr}
use Rattle.je_instr.specs.declared.program.Handler.{Handler}
use Rattle.je_splice.specs.Layout as layout
use Rattle.je_splice.specs.Marks.{Marks, entry_items, over_if, last_item, index_items, lead_items, items_from}
use Rattle.je_splice.specs.InstrCodes.{instr_codes}
use Rattle.je_put.specs.declared.block.Block.{Block}
use Rattle.je_put.specs.declared.items.Item.{Item}
use Rattle.je_splice.specs.Put.{PutBefore}
use Rattle.je_put.specs.declared.block.EntryBlock.{EntryBlock}
use Rattle.je_put.specs.declared.block.PlaceBlock.{PlaceBlock}
use Rattle.je_put.specs.declared.parts.Parts.{Parts}
use Rattle.je_put.specs.Parts.{Here, here_of, here_at, HasParts}
use Rattle.je_put.specs.Placing.{completes, put_before, block_marks}
use Rattle.je_put.specs.Items.{item_seen, items_seen, IsHere}
use Rattle.je_put.specs.Tables.{HasTargetsBelow}

pub all_append : {A : Type 0} (P : A → Type 0) (xs ys : List A) → AllByRecursion P xs → AllByRecursion P ys → AllByRecursion P (xs ++ ys)
all_append P [] ys first rest = rest
all_append P (x ∷ xs) ys first rest = (first.0, all_append P xs ys first.1 rest)

-- one more item
pub one_more : (m : Marks Block Handler) (items items' : List Item) (item : Item) (rest : List (layout.Item Instr Block))
    → items' ≡ items ++ item ∷ [] → items_seen m items' ++ rest ≡ items_seen m items ++ item_seen m item ∷ rest
one_more m items items' item rest is =
    ap (λ l. items_seen m l ++ rest) is ∙ ap (λ l. l ++ rest) (map-append (item_seen m) items (item ∷ []))
    ∙ append_assoc (items_seen m items) (item_seen m item ∷ []) rest

pub kept_more : (count : ℕ) (items items' : List Item) (item : Item) → items' ≡ items ++ item ∷ [] → HasTargetsBelow count item
    → AllByRecursion (HasTargetsBelow count) items → AllByRecursion (HasTargetsBelow count) items'
kept_more count items items' item is one all =
    subst (AllByRecursion (HasTargetsBelow count)) (sym is) (all_append (HasTargetsBelow count) items (item ∷ []) all (one, tt))

-- one more block in the way of handlers
pub entries_more : (m : Marks Block Handler) (items items' : List Item) (item : Item) (over passed sum : ℕ) (b : Block) (xs ys : List Block)
    → m.completes ≡ completes → items' ≡ items ++ item ∷ [] → item_seen m item ≡ layout.Puts over b → over ≡ over_if (completes b) sum → sum ≡ length xs + passed
    → ys ≡ b ∷ xs → items_seen m items' ++ entry_items m passed xs ≡ items_seen m items ++ entry_items m passed ys
entries_more m items items' item over passed sum b xs ys how is seen over_is sum_is ys_is =
    one_more m items items' item (entry_items m passed xs) is
    ∙ ap (λ i. items_seen m items ++ i ∷ entry_items m passed xs)
    (seen ∙ ap (λ (n : ℕ). layout.Puts n b) (over_is ∙ ap (λ (n : ℕ). over_if (completes b) n) sum_is ∙ ap (λ (f : Block → Bool). over_if (f b) (length xs + passed)) (sym how)))
    ∙ ap (λ (l : List Block). items_seen m items ++ entry_items m passed l) (sym ys_is)

-- ---- the row of an index

some_is : {A : Type 0} (x y : A) → Some x ≡ Some y → x ≡ y
some_is x y e = cc

module _ (places : List PlaceBlock) (entries : List EntryBlock) (count : ℕ) (table : List Parts) (has : HasParts places entries count table) where
  pub row_is : (i : ℕ) (row : Parts) → i < count → row ≡ get_or table i row → here_of row ≡ here_at places entries i
  row_is i row within is =
      let inside : i < length table = (let long = has.long in omega (arith, long, within)) in
      let there : slice_get table i ≡ Some row = slice_get-get_or table i row inside ∙ ap Some (sym is) in
      some_is (here_of row) (here_at places entries i) (sym (ap (option_map here_of) there) ∙ has.each i within)

  -- how much is put at the index
  pub entries_count : (i : ℕ) (row : Parts) → i < count → row ≡ get_or table i row → length ((block_marks places entries).entries i) ≡ length row.entries.items
  entries_count i row within is =
      length-map (here_at places entries i).entries (λ put. put.piece)
      ∙ ap (λ (h : Here). length h.entries) (sym (row_is i row within is))
      ∙ length-map row.entries.items (λ e. put_before e.now)

  pub passed_count : (i : ℕ) (row : Parts) → i < count → row ≡ get_or table i row → length ((block_marks places entries).passed i) ≡ length row.passed.items
  passed_count i row within is =
      ap (λ (h : Here). length h.passed) (sym (row_is i row within is)) ∙ length-map row.passed.items (λ b. b.now)

  pub met_count : (i : ℕ) (row : Parts) → i < count → row ≡ get_or table i row → length ((block_marks places entries).met i) ≡ length row.met.items
  met_count i row within is =
      ap (λ (h : Here). length h.met) (sym (row_is i row within is)) ∙ length-map row.met.items (λ b. b.now)

  pub is_here : (i : ℕ) (row next : Parts) (n : ℕ) → i + 1 < count → row ≡ get_or table i row → next ≡ get_or table (i + 1) next → n ≡ length next.entries.items
      → IsHere (block_marks places entries) i (here_of row) n
  is_here i row next n within is next_is n_is =
      let same = sym (row_is i row (omega (arith, within)) is) in
      let behind : suc i ≡ i + 1 = omega arith in
      record {
        completes = refl;
        entries = ap (λ (h : Here). map (λ put. put.piece) h.entries) same;
        passed = ap (λ (h : Here). h.passed) same;
        met = ap (λ (h : Here). h.met) same;
        instead = ap (λ (h : Here). h.instead) same;
        next = ap (λ (k : ℕ). length ((block_marks places entries).entries k)) behind ∙ entries_count (i + 1) next within next_is ∙ sym n_is;
      }

-- ---- what is put at an index, in a row

map_map : {A B C : Type 0} (g : B → C) (f : A → B) (xs : List A) → map g (map f xs) ≡ map (λ x. g (f x)) xs
map_map g f [] = refl
map_map g f (x ∷ xs) = ap (λ l. g (f x) ∷ l) (map_map g f xs)

-- four lists one behind the other
four : {A : Type 0} (s0 s1 s2 s3 s4 a b c d : List A) → s1 ≡ s0 ++ a → s2 ≡ s1 ++ b → s3 ≡ s2 ++ c → s4 ≡ s3 ++ d → s4 ≡ s0 ++ (a ++ (b ++ (c ++ d)))
four s0 s1 s2 s3 s4 a b c d e1 e2 e3 e4 =
    e4 ∙ ap (λ l. l ++ d) (e3 ∙ ap (λ l. l ++ c) (e2 ∙ ap (λ l. l ++ b) e1))
    ∙ append_assoc ((s0 ++ a) ++ b) c d ∙ append_assoc (s0 ++ a) b (c ++ d) ∙ append_assoc s0 a (b ++ (c ++ d))

pub index_pushed : (m : Marks Block Handler) (i next : ℕ) (parts : Parts) (instr : Instr) (last : layout.Item Instr Block) (s0 s1 s2 s3 s4 : List (layout.Item Instr Block)) (passed : ℕ)
    → IsHere m i (here_of parts) next → passed ≡ length parts.passed.items
    → s1 ≡ s0 ++ entry_items m passed (map (λ e. e.now.block) parts.entries.items)
    → s2 ≡ s1 ++ map (λ b. layout.Puts 0 b.now) parts.passed.items
    → s3 ≡ s2 ++ map (λ b. layout.Puts 0 b.now) parts.met.items
    → last ≡ last_item instr_codes m i instr (option_map (λ b. b.now) parts.instead)
    → s4 ≡ s3 ++ last ∷ []
    → s4 ≡ s0 ++ index_items instr_codes m i instr
index_pushed m i next parts instr last s0 s1 s2 s3 s4 passed h passed_is e1 e2 e3 last_is e4 =
    let puts : Block → layout.Item Instr Block = λ b. layout.Puts 0 b in
    let entries : map (λ e. e.now.block) parts.entries.items ≡ m.entries i =
    sym (h.entries ∙ map_map (λ (put : PutBefore Block Handler). put.piece) (λ e. put_before e.now) parts.entries.items) in
    let count : passed ≡ length (m.passed i) = passed_is ∙ sym (ap length h.passed ∙ length-map parts.passed.items (λ b. b.now)) in
    let passed_items : map (λ b. layout.Puts 0 b.now) parts.passed.items ≡ map puts (m.passed i) =
    sym (ap (map puts) h.passed ∙ map_map puts (λ b. b.now) parts.passed.items) in
    let met_items : map (λ b. layout.Puts 0 b.now) parts.met.items ≡ map puts (m.met i) =
    sym (ap (map puts) h.met ∙ map_map puts (λ b. b.now) parts.met.items) in
    four s0 s1 s2 s3 s4 (entry_items m (length (m.passed i)) (m.entries i)) (map puts (m.passed i)) (map puts (m.met i)) (last_item instr_codes m i instr (m.instead i) ∷ [])
    (e1 ∙ ap (λ (l : List Block). s0 ++ entry_items m passed l) entries ∙ ap (λ (n : ℕ). s0 ++ entry_items m n (m.entries i)) count)
    (e2 ∙ ap (λ l. s1 ++ l) passed_items)
    (e3 ∙ ap (λ l. s2 ++ l) met_items)
    (e4 ∙ ap (λ x. s3 ++ x ∷ []) (last_is ∙ ap (last_item instr_codes m i instr) (sym h.instead)))

-- the same, where the lists are what was passed
pub index_pushed_of : (m : Marks Block Handler) (i next : ℕ) (parts : Parts) (instr : Instr) (s0 s1 s2 s3 : List (layout.Item Instr Block)) (es : List (Bor EntryBlock)) (ps ms : List (Bor Block))
    (items items' : List Item) (item : Item) (passed : ℕ)
    → IsHere m i (here_of parts) next → passed ≡ length parts.passed.items → es ≡ parts.entries.items → ps ≡ parts.passed.items → ms ≡ parts.met.items
    → s1 ≡ s0 ++ entry_items m passed (map (λ e. e.now.block) es)
    → s2 ≡ s1 ++ map (λ b. layout.Puts 0 b.now) ps
    → s3 ≡ s2 ++ map (λ b. layout.Puts 0 b.now) ms
    → items_seen m items ≡ s3
    → item_seen m item ≡ last_item instr_codes m i instr (option_map (λ b. b.now) parts.instead)
    → items' ≡ items ++ item ∷ []
    → items_seen m items' ≡ s0 ++ index_items instr_codes m i instr
index_pushed_of m i next parts instr s0 s1 s2 s3 es ps ms items items' item passed h passed_is es_is ps_is ms_is e1 e2 e3 s3_is last_is is =
    index_pushed m i next parts instr (item_seen m item) s0 s1 s2 s3 (items_seen m items') passed h passed_is
    (e1 ∙ ap (λ (l : List (Bor EntryBlock)). s0 ++ entry_items m passed (map (λ e. e.now.block) l)) es_is)
    (e2 ∙ ap (λ (l : List (Bor Block)). s1 ++ map (λ b. layout.Puts 0 b.now) l) ps_is)
    (e3 ∙ ap (λ (l : List (Bor Block)). s2 ++ map (λ b. layout.Puts 0 b.now) l) ms_is)
    last_is
    (ap (items_seen m) is ∙ map-append (item_seen m) items (item ∷ []) ∙ ap (λ l. l ++ item_seen m item ∷ []) s3_is)

-- ---- the whole row

pub row_begins : (m : Marks Block Handler) (count : ℕ) (rest : List (layout.Item Instr Block)) → length (m.entries 0) ≡ suc count
    → layout.Keeps 0 (instr_codes.jump 0 (suc (suc count))) ∷ rest ≡ lead_items instr_codes (length (m.entries 0)) ++ rest
row_begins m count rest long = ap (λ (n : ℕ). lead_items instr_codes n ++ rest) (sym long)

pub row_more : (m : Marks Block Handler) (i : ℕ) (s s' whole : List (layout.Item Instr Block)) (instr : Instr) (rest tail : List Instr) → rest ≡ instr ∷ tail
    → s' ≡ s ++ index_items instr_codes m i instr → s ++ items_from instr_codes m i rest ≡ whole → s' ++ items_from instr_codes m (i + 1) tail ≡ whole
row_more m i s s' whole instr rest tail is s_is before =
    let next : i + 1 ≡ suc i = omega arith in
    ap (λ (n : ℕ). s' ++ items_from instr_codes m n tail) next
    ∙ ap (λ l. l ++ items_from instr_codes m (suc i) tail) s_is
    ∙ append_assoc s (index_items instr_codes m i instr) (items_from instr_codes m (suc i) tail)
    ∙ ap (λ (l : List Instr). s ++ items_from instr_codes m i l) (sym is) ∙ before

-- ---- walks over a list

pub drop_step : {A : Type 0} (xs : List A) (i : ℕ) (x : A) → i < length xs → x ≡ get_or xs i x → drop i xs ≡ x ∷ drop (i + 1) xs
drop_step xs i x within is =
    let next : suc i ≡ i + 1 = omega arith in
    drop-cons xs i x within ∙ ap (λ y. y ∷ drop (suc i) xs) (sym is) ∙ ap (λ (n : ℕ). x ∷ drop n xs) next

pub drop_end : {A : Type 0} (xs : List A) (i : ℕ) → length xs ≤ i → drop i xs ≡ []
drop_end [] zero past = refl
drop_end [] (suc i) past = refl
drop_end (x ∷ xs) zero past = absurd (omega (arith, past))
drop_end (x ∷ xs) (suc i) past = drop_end xs i (omega (arith, past))

-- all are gone through
pub walk_end : {A B : Type 0} (f : List A → List B) (xs : List A) (i : ℕ) (out whole : List B) → f [] ≡ [] → length xs ≤ i → out ++ f (drop i xs) ≡ whole → out ≡ whole
walk_end f xs i out whole none past before =
    sym (append-nil out) ∙ ap (λ l. out ++ l) (sym (ap f (drop_end xs i past) ∙ none)) ∙ before
