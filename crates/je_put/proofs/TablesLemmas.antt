-- Where places begin, and tables of it.
use Rattle.std.proofs.Common.{◌≡◌, ℕ, zero, suc, ◌+◌, ◌-◌, ◌<◌, ◌≤◌, get_or, List, [], ◌∷◌, ◌++◌, length, drop, append_assoc, refl, sym, ap, ◌∙◌, subst, arith, length-append}
use Rattle.std.specs.Prelude.{Bool, true, false, nat_lt, Some, slice_get}
use Rattle.std.proofs.lemmas.Bool.{leb-true, leb-false}
use Rattle.je_splice.specs.Layout.{width, moved_to}
use Rattle.je_splice.proofs.LayoutLemmas.{get_front, get_behind}
use Rattle.je_instr.specs.declared.program.Handler.{Handler}
use Rattle.je_splice.specs.Marks.{Marks, first_of, arrive, stand}
use Rattle.je_put.specs.declared.block.Block.{Block}
use Rattle.je_put.specs.declared.items.Item.{Item}
use Rattle.je_put.specs.Items.{item_seen, items_seen}
use Rattle.je_put.specs.Result.{Lists, with_piece, pieces}
use Rattle.je_put.proofs.ItemsLemmas.{drop_end}
use Rattle.std.proofs.lemmas.Option.{get_or_from_slice_get}
use Rattle.je_put.specs.Tables.{Row, begins_from, Lands}

pub length-begins_from : (at : ℕ) (items : Row) → length (begins_from at items) ≡ suc (length items)
length-begins_from at [] = refl
length-begins_from at (item ∷ items) = ap suc (length-begins_from (at + width item) items)

begins_at : (at : ℕ) (items : Row) (place : ℕ) → place < length (begins_from at items) → get_or (begins_from at items) place 0 ≡ at + moved_to items place
begins_at at [] zero within = omega arith
begins_at at [] (suc place) within = absurd (omega (arith, within))
begins_at at (item ∷ items) zero within = omega arith
begins_at at (item ∷ items) (suc place) within = omega (arith, begins_at (at + width item) items place (omega (arith, within)))

-- behind the last place nothing more begins
moved_past : (items : Row) (place : ℕ) → length items ≤ place → moved_to items place ≡ moved_to items (length items)
moved_past [] zero past = refl
moved_past [] (suc place) past = refl
moved_past (item ∷ items) zero past = absurd (omega (arith, past))
moved_past (item ∷ items) (suc place) past = ap (λ (n : ℕ). width item + n) (moved_past items place (omega (arith, past)))

pub begin_within : (begins : List ℕ) (items : Row) (place : ℕ) → begins ≡ begins_from 0 items → place < length begins → get_or begins place 0 ≡ moved_to items place
begin_within begins items place is within =
    let there = begins_at 0 items place (subst (λ (l : List ℕ). place < length l) is within) in
    ap (λ (l : List ℕ). get_or l place 0) is ∙ there ∙ omega arith

pub begin_past : (begins : List ℕ) (items : Row) (place : ℕ) → begins ≡ begins_from 0 items → length begins ≤ place → get_or begins (length begins - 1) 0 ≡ moved_to items place
begin_past begins items place is past =
    let long = ap length is ∙ length-begins_from 0 items in
    begin_within begins items (length begins - 1) is (omega (arith, long))
    ∙ (let last : length begins - 1 ≡ length items = omega (arith, long) in ap (moved_to items) last)
    ∙ sym (moved_past items place (omega (arith, long, past)))

-- ---- lists of a function's values

pub lists_none : (f : ℕ → ℕ) → Lists f 0 []
lists_none f = record { each = λ i within. absurd (omega (arith, within)); long = refl }

pub lists_more : (f : ℕ → ℕ) (i : ℕ) (xs ys : List ℕ) (x : ℕ) → Lists f i xs → x ≡ f i → ys ≡ xs ++ x ∷ [] → Lists f (i + 1) ys
lists_more f i xs ys x so_far x_is ys_is = record {
  each = λ k within. subst (λ (l : List ℕ). slice_get l k ≡ Some (f k)) (sym ys_is) (each_more k within);
  long = ap length ys_is ∙ (let long = so_far.long in omega (arith, long, length-append xs (x ∷ [])));
} where
  each_more : (k : ℕ) → k < i + 1 → slice_get (xs ++ x ∷ []) k ≡ Some (f k)
  each_more k within = by_order (nat_lt k i) refl where
    by_order : (t : Bool) → nat_lt k i ≡ t → slice_get (xs ++ x ∷ []) k ≡ Some (f k)
    by_order true e = get_front xs (x ∷ []) k (f k) (so_far.each k (leb-true (suc k) i e))
    by_order false e =
        let same : k ≡ i = omega (arith, within, leb-false (suc k) i e) in
        let at_end : k ≡ length xs + 0 = (let long = so_far.long in omega (arith, long, same)) in
        get_behind xs (x ∷ []) 0 k at_end ∙ ap Some (x_is ∙ ap f (sym same))

-- ---- the loops' steps

pub begins_more : (m : Marks Block Handler) (begins begins' whole : List ℕ) (at at' w : ℕ) (item : Item) (rest tail : List Item) → begins' ≡ begins ++ at ∷ [] → at' ≡ at + w
    → w ≡ width (with_piece (item_seen m item)) → rest ≡ item ∷ tail
    → begins ++ begins_from at (pieces (items_seen m rest)) ≡ whole → begins' ++ begins_from at' (pieces (items_seen m tail)) ≡ whole
begins_more m begins begins' whole at at' w item rest tail begins_is at_is w_is is before =
    let next : at' ≡ at + width (with_piece (item_seen m item)) = omega (arith, at_is, w_is) in
    ap (λ (n : ℕ). begins' ++ begins_from n (pieces (items_seen m tail))) next
    ∙ ap (λ l. l ++ begins_from (at + width (with_piece (item_seen m item))) (pieces (items_seen m tail))) begins_is
    ∙ append_assoc begins (at ∷ []) (begins_from (at + width (with_piece (item_seen m item))) (pieces (items_seen m tail)))
    ∙ ap (λ (l : List Item). begins ++ begins_from at (pieces (items_seen m l))) (sym is)
    ∙ before

pub begins_end : (m : Marks Block Handler) (begins begins' whole : List ℕ) (at : ℕ) (items : List Item) (i : ℕ) → begins' ≡ begins ++ at ∷ [] → length items ≤ i
    → begins ++ begins_from at (pieces (items_seen m (drop i items))) ≡ whole → begins' ≡ whole
begins_end m begins begins' whole at items i is past before =
    is ∙ ap (λ (l : List Item). begins ++ begins_from at (pieces (items_seen m l))) (sym (drop_end items i past)) ∙ before

-- the places of an index by what is put there
module _ (m : Marks Block Handler) (i first e p t : ℕ) (first_is : first ≡ first_of m i) (e_is : e ≡ length (m.entries i)) (p_is : p ≡ length (m.passed i)) (t_is : t ≡ length (m.met i)) where
  pub arrive_is : (n s : ℕ) → n ≡ first + s → s ≡ e + p → n ≡ arrive m i
  arrive_is n s n_is s_is = omega (arith, n_is, s_is, first_is, e_is, p_is)

  pub stand_is : (n s k : ℕ) → n ≡ first + s → s ≡ e + p → k ≡ n + t → k ≡ stand m i
  stand_is n s k n_is s_is k_is = omega (arith, n_is, s_is, k_is, first_is, e_is, p_is, t_is)

  pub next_first : (n s k f : ℕ) → n ≡ first + s → s ≡ e + p → k ≡ n + t → f ≡ k + 1 → f ≡ first_of m (i + 1)
  next_first n s k f n_is s_is k_is f_is =
      let next : suc i ≡ i + 1 = omega arith in
      let here : f ≡ first_of m (suc i) = omega (arith, n_is, s_is, k_is, f_is, first_is, e_is, p_is, t_is) in
      here ∙ ap (first_of m) next

pub lists_all : (f : ℕ → ℕ) (i count : ℕ) (xs : List ℕ) → count ≤ i → i ≤ count → Lists f i xs → Lists f count xs
lists_all f i count xs past within so_far = let same : i ≡ count = omega (arith, past, within) in subst (λ (n : ℕ). Lists f n xs) same so_far

-- ---- what the tables say to code

pub begins_some : (m : Marks Block Handler) (items : List Item) (begins list : List ℕ) → begins ≡ list → list ≡ begins_from 0 (pieces (items_seen m items)) → 0 < length begins
begins_some m items begins list is list_is =
    let long = ap length (is ∙ list_is) ∙ length-begins_from 0 (pieces (items_seen m items)) in omega (arith, long)

pub lands_by : (m : Marks Block Handler) (items : Row) (count : ℕ) (landing list : List ℕ) → landing ≡ list → Lists (λ i. moved_to items (arrive m i)) count list → Lands m items landing
lands_by m items count landing list is all =
    subst (Lands m items) (sym is)
    (λ i within. get_or_from_slice_get list i (moved_to items (arrive m i)) 0 (all.each i (let long = all.long in omega (arith, long, within))))

-- a table of the end too
pub without_end : (n : ℕ) (rows list : List ℕ) (long : ℕ) → rows ≡ list → length list ≡ long → long ≡ suc n → length rows - 1 ≡ n
without_end n rows list long is list_long long_is = let same = ap length is in omega (arith, same, list_long, long_is)
