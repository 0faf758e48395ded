-- The new code and its exception table.
use Rattle.std.proofs.Common.{◌≡◌, ℕ, zero, suc, ◌+◌, ◌-◌, ◌<◌, ◌≤◌, get_or, List, [], ◌∷◌, ◌++◌, length, map, filter, drop, append_assoc, refl, sym, ap, ◌∙◌, subst, arith}
use Rattle.std.specs.Prelude.{Bool, true, cond, slice_index, slice_get, Option, Some, None, option_map, position}
use Rattle.std.specs.List.{position_from}
use Rattle.std.proofs.lemmas.Iterator.Adapters.{position_from-zero}
use denote.Ref.{Bor}
use Rattle.std.proofs.lemmas.Option.{slice_get-get_or, slice_get_past, get_or_from_slice_get}
use Rattle.std.proofs.lemmas.List.Elements.{filter-append}
use Rattle.je_instr.specs.declared.instr.Instr.{Instr}
use Rattle.je_instr.specs.declared.program.Handler.{Handler}
use Rattle.je_shape.specs.declared.slot.Shape.{Shape}
use Rattle.je_splice.specs.Layout.{width, moved_to, over_of, body_code, jump_code, code_from, own_handlers, own_from, laid_handlers, shut, width_there, body_width}
use Rattle.je_splice.specs.InstrCodes.{instr_codes, redirected, covers_some}
use Rattle.je_splice.specs.Marks.{Marks, arrive, entry_target, first_of, marked_handlers}
use Rattle.je_put.specs.declared.block.Block.{Block}
use Rattle.je_put.specs.declared.items.Item.{Item}
use Rattle.je_put.specs.declared.items.Item.TheVariants.{Keeps}
use Rattle.je_put.specs.Items.{item_seen, items_seen}
use Rattle.je_put.specs.Result.{with_piece, pieces, item_shapes, shapes_from, Lists}
use Rattle.je_put.specs.declared.block.EntryBlock.{EntryBlock}
use Rattle.je_put.specs.declared.block.PlaceBlock.{PlaceBlock}
use Rattle.je_put.specs.declared.parts.Parts.{Parts}
use Rattle.je_put.specs.Parts.{Here, HasParts}
use Rattle.je_put.specs.Placing.{put_before, block_marks}
use Rattle.je_put.specs.Tables.{Row, HasTargetsBelow, Lands, entry_place, moved_handler}
use Rattle.je_put.proofs.ItemsLemmas.{drop_end, row_is}
use Rattle.je_put.proofs.RedirectLemmas.{redirected_twice}

pub body_keeps : (m : Marks Block Handler) (items : Row) (item : Item) (over at : ℕ) (instr : Bor Instr) (landing : List ℕ) (out out' : List Instr) (new : Instr)
    → item ≡ Keeps over instr → HasTargetsBelow (length landing - 1) item → Lands m items landing → new ≡ redirected (slice_index landing) instr.now → out' ≡ out ++ new ∷ []
    → out' ≡ out ++ body_code instr_codes (moved_to items) at (with_piece (item_seen m item))
body_keeps m items item over at instr landing out out' new item_is has lands new_is out_is =
    let targets : HasTargetsBelow (length landing - 1) (Keeps over instr) = subst (HasTargetsBelow (length landing - 1)) item_is has in
    let twice = redirected_twice (slice_index landing) (moved_to items) (arrive m) (length landing - 1) (λ target within. lands target (omega (arith, within))) instr.now targets in
    out_is ∙ ap (λ (i : Instr). out ++ i ∷ []) (new_is ∙ twice)
    ∙ ap (λ (x : Item). out ++ body_code instr_codes (moved_to items) at (with_piece (item_seen m x))) (sym item_is)

pub code_more : (m : Marks Block Handler) (to : ℕ → ℕ) (code c1 c2 whole : List Instr) (place at at' w over : ℕ) (item : Item) (rest tail : List Item)
    → c1 ≡ code ++ body_code instr_codes to at (with_piece (item_seen m item))
    → c2 ≡ c1 ++ jump_code instr_codes place (to (suc place + over)) over → over ≡ over_of (with_piece (item_seen m item))
    → at' ≡ at + w → w ≡ width (with_piece (item_seen m item)) → rest ≡ item ∷ tail
    → code ++ code_from instr_codes to place at (pieces (items_seen m rest)) ≡ whole
    → c2 ++ code_from instr_codes to (place + 1) at' (pieces (items_seen m tail)) ≡ whole
code_more m to code c1 c2 whole place at at' w over item rest tail body jump over_is at_is w_is is before =
    let x = with_piece (item_seen m item) in
    let more : ℕ → ℕ → List Instr = λ p n. code_from instr_codes to p n (pieces (items_seen m tail)) in
    let behind : place + 1 ≡ suc place = omega arith in
    let next : at' ≡ at + width x = omega (arith, at_is, w_is) in
    let b = body_code instr_codes to at x in
    let j = jump_code instr_codes place (to (suc place + over_of x)) (over_of x) in
    let put : c2 ≡ code ++ (b ++ j) =
    jump ∙ ap (λ (n : ℕ). c1 ++ jump_code instr_codes place (to (suc place + n)) n) over_is ∙ ap (λ l. l ++ j) body ∙ append_assoc code b j in
    ap (λ (p : ℕ). c2 ++ more p at') behind ∙ ap (λ (n : ℕ). c2 ++ more (suc place) n) next
    ∙ ap (λ l. l ++ more (suc place) (at + width x)) put ∙ append_assoc code (b ++ j) (more (suc place) (at + width x))
    ∙ ap (λ (l : List Item). code ++ code_from instr_codes to place at (pieces (items_seen m l))) (sym is) ∙ before

-- ---- entries of the exception table

-- one more place's entries
pub own_more : (m : Marks Block Handler) (own own' whole : List Handler) (at at' w : ℕ) (item : Item) (rest tail : List Item)
    → own' ≡ own ++ filter covers_some (own_handlers instr_codes at (with_piece (item_seen m item)))
    → at' ≡ at + w → w ≡ width (with_piece (item_seen m item)) → rest ≡ item ∷ tail
    → own ++ filter covers_some (own_from instr_codes at (pieces (items_seen m rest))) ≡ whole
    → own' ++ filter covers_some (own_from instr_codes at' (pieces (items_seen m tail))) ≡ whole
own_more m own own' whole at at' w item rest tail own_is at_is w_is is before =
    let x = with_piece (item_seen m item) in
    let here = own_handlers instr_codes at x in
    let more : ℕ → List Handler = λ n. own_from instr_codes n (pieces (items_seen m tail)) in
    let next : at' ≡ at + width x = omega (arith, at_is, w_is) in
    ap (λ (n : ℕ). own' ++ filter covers_some (more n)) next
    ∙ ap (λ l. l ++ filter covers_some (more (at + width x))) own_is
    ∙ append_assoc own (filter covers_some here) (filter covers_some (more (at + width x)))
    ∙ ap (λ l. own ++ l) (sym (filter-append covers_some here (more (at + width x))))
    ∙ ap (λ (l : List Item). own ++ filter covers_some (own_from instr_codes at (pieces (items_seen m l)))) (sym is) ∙ before

-- one more entry
pub filter_more : {A : Type 0} (f : A → Handler) (out out' whole : List Handler) (h : Handler) (x : A) (rest tail : List A)
    → out' ≡ out ++ filter covers_some (h ∷ []) → h ≡ f x → rest ≡ x ∷ tail
    → out ++ filter covers_some (map f rest) ≡ whole → out' ++ filter covers_some (map f tail) ≡ whole
filter_more f out out' whole h x rest tail out_is h_is is before =
    ap (λ l. l ++ filter covers_some (map f tail)) (out_is ∙ ap (λ (y : Handler). out ++ filter covers_some (y ∷ [])) h_is)
    ∙ append_assoc out (filter covers_some (f x ∷ [])) (filter covers_some (map f tail))
    ∙ ap (λ l. out ++ l) (sym (filter-append covers_some (f x ∷ []) (map f tail)))
    ∙ ap (λ l. out ++ filter covers_some (map f l)) (sym is) ∙ before

-- ---- shapes

pub shapes_more : (m : Marks Block Handler) (to : ℕ → ℕ) (out out' whole : List (ℕ × Shape)) (at at' w : ℕ) (item : Item) (rest tail : List Item)
    → out' ≡ out ++ item_shapes to at (item_seen m item)
    → at' ≡ at + w → w ≡ width (with_piece (item_seen m item)) → rest ≡ item ∷ tail
    → out ++ shapes_from to at (items_seen m rest) ≡ whole → out' ++ shapes_from to at' (items_seen m tail) ≡ whole
shapes_more m to out out' whole at at' w item rest tail out_is at_is w_is is before =
    let x = item_seen m item in
    let more : ℕ → List (ℕ × Shape) = λ n. shapes_from to n (items_seen m tail) in
    let next : at' ≡ at + width (with_piece x) = omega (arith, at_is, w_is) in
    ap (λ (n : ℕ). out' ++ more n) next
    ∙ ap (λ l. l ++ more (at + width (with_piece x))) out_is
    ∙ append_assoc out (item_shapes to at x) (more (at + width (with_piece x)))
    ∙ ap (λ (l : List Item). out ++ shapes_from to at (items_seen m l)) (sym is) ∙ before

-- ---- where ranges end

pub shut_behind : (items : Row) (place : ℕ) → (place ≡ 0 → ⊥) → shut items place ≡ moved_to items (place - 1) + width_there (slice_get items (place - 1))
shut_behind items zero some = absurd (some refl)
shut_behind items (suc last) some =
    let before : last ≡ suc last - 1 = omega arith in
    ap (λ (n : ℕ). moved_to items n + width_there (slice_get items n)) before

pub get_seen : (m : Marks Block Handler) (items : List Item) (place : ℕ) → slice_get (pieces (items_seen m items)) place ≡ option_map (λ x. with_piece (item_seen m x)) (slice_get items place)
get_seen m [] place = refl
get_seen m (item ∷ items) zero = refl
get_seen m (item ∷ items) (suc place) = get_seen m items place

-- ---- which entry a handler meets

pub met_here : {A B : Type 0} (t : B → Bool) (f : A → B) (xs tail : List A) (x : A) (k : ℕ) → drop k xs ≡ x ∷ tail → t (f x) ≡ true
    → position_from t k (map f (drop k xs)) ≡ position_from t 0 (map f xs) → Some k ≡ position t (map f xs)
met_here t f xs tail x k step here before =
    sym (ap (λ l. position_from t k (map f l)) step ∙ ap (λ (b : Bool). cond b (Some k) (position_from t (k + 1) (map f tail))) here)
    ∙ before ∙ sym (position_from-zero t (map f xs))

pub met_none : {A B : Type 0} (t : B → Bool) (f : A → B) (xs : List A) (k : ℕ) → length xs ≤ k
    → position_from t k (map f (drop k xs)) ≡ position_from t 0 (map f xs) → None ≡ position t (map f xs)
met_none t f xs k past before =
    sym (ap (λ l. position_from t k (map f l)) (drop_end xs k past)) ∙ before ∙ sym (position_from-zero t (map f xs))

pub body_there : (m : Marks Block Handler) (items : List Item) (place n : ℕ) (item : Item) → place < length items → item ≡ get_or items place item
    → n ≡ body_width (with_piece (item_seen m item)) → n ≡ width_there (slice_get (pieces (items_seen m items)) place)
body_there m items place n item within is n_is =
    n_is ∙ ap width_there (sym (get_seen m items place ∙ ap (option_map (λ x. with_piece (item_seen m x))) (slice_get-get_or items place item within ∙ ap Some (sym is))))

pub body_past : (m : Marks Block Handler) (items : List Item) (place : ℕ) → length items ≤ place → 0 ≡ width_there (slice_get (pieces (items_seen m items)) place)
body_past m items place past =
    ap width_there (sym (get_seen m items place ∙ ap (option_map (λ x. with_piece (item_seen m x))) (slice_get_past items place past)))

-- ---- where a handler leads

pub listed : (f : ℕ → ℕ) (count i default : ℕ) (xs : List ℕ) → Lists f count xs → i < count → get_or xs i default ≡ f i
listed f count i default xs all within = get_or_from_slice_get xs i (f i) default (all.each i within)

pub entry_is : (places : List PlaceBlock) (entries : List EntryBlock) (count : ℕ) (table : List Parts) (has : HasParts places entries count table) (h : Handler) (row : Parts) (es : List (Bor EntryBlock)) (o : Option ℕ)
    → h.target < count → row ≡ get_or table h.target row → es ≡ row.entries.items → o ≡ position (λ put. put.meets h) (map (λ e. put_before e.now) es)
    → entry_target (block_marks places entries) o h.target ≡ entry_place (block_marks places entries) h
entry_is places entries count table has h row es o within is es_is o_is =
    let met : o ≡ (block_marks places entries).entry_of h =
    o_is ∙ ap (λ (l : List (Bor EntryBlock)). position (λ put. put.meets h) (map (λ e. put_before e.now) l)) es_is
    ∙ ap (λ (x : Here). position (λ put. put.meets h) x.entries) (row_is places entries count table has h.target row within is) in
    ap (λ (x : Option ℕ). entry_target (block_marks places entries) x h.target) met

abbrev handler : ℕ → ℕ → ℕ → ℕ → Handler
handler start end target catch_const = record { start = start; end = end; target = target; catch_const = catch_const }

pub handler_moved : (m : Marks Block Handler) (items : Row) (h : Handler) (start end target first last place : ℕ)
    → first ≡ first_of m h.start → last ≡ first_of m h.end → place ≡ entry_place m h
    → start ≡ moved_to items first → end ≡ shut items last → target ≡ moved_to items place
    → handler start end target h.catch_const ≡ moved_handler m items h
handler_moved m items h start end target first last place first_is last_is place_is start_is end_is target_is =
    ap (λ (n : ℕ). handler n end target h.catch_const) (start_is ∙ ap (moved_to items) first_is)
    ∙ ap (λ (n : ℕ). handler (moved_to items (first_of m h.start)) n target h.catch_const) (end_is ∙ ap (shut items) last_is)
    ∙ ap (λ (n : ℕ). handler (moved_to items (first_of m h.start)) (shut items (first_of m h.end)) n h.catch_const) (target_is ∙ ap (moved_to items) place_is)

map_map : {A B C : Type 0} (g : B → C) (f : A → B) (xs : List A) → map g (map f xs) ≡ map (λ x. g (f x)) xs
map_map g f [] = refl
map_map g f (x ∷ xs) = ap (λ l. g (f x) ∷ l) (map_map g f xs)

pub all_laid : (m : Marks Block Handler) (items : Row) (handlers : List Handler)
    → filter covers_some (own_from instr_codes 0 items) ++ filter covers_some (map (moved_handler m items) handlers)
    ≡ laid_handlers instr_codes items (marked_handlers instr_codes m handlers)
all_laid m items handlers =
    sym (filter-append covers_some (own_from instr_codes 0 items) (map (moved_handler m items) handlers))
    ∙ ap (λ l. filter covers_some (own_from instr_codes 0 items ++ l))
    (sym (map_map (instr_codes.move (moved_to items) (shut items) (moved_to items)) (λ h. instr_codes.move (first_of m) (first_of m) (entry_target m (m.entry_of h)) h) handlers))
