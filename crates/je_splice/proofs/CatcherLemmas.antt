-- Where throws go in laid code.
use Rattle.std.proofs.Common.{◌≡◌, ℕ, zero, suc, ◌+◌, ◌<◌, ◌≤◌, List, [], ◌∷◌, ◌++◌, length, Option, Some, None, Bool, true, false, cond, refl, sym, ap, subst, ◌∙◌, ◌⊎◌, inl, inr, arith}
use Rattle.std.specs.Prelude.{◌&&◌, IsTrue, map, filter, option_map, slice_get, nat_le, nat_lt}
use Rattle.std.specs.List.{AllByRecursion, find}
use Rattle.std.specs.Option.{option_or}
use Rattle.std.proofs.lemmas.Bool.{leb-true, le-leb, ltb-true, lt-ltb}
use Rattle.je_machine.specs.Value.{Value}
use Rattle.je_machine.specs.Heap.{Heap}
use Rattle.je_machine.specs.Classes.{Classes}
use Rattle.je_machine.specs.Operation.{Operation, Handler}
use Rattle.je_machine.specs.Machine.{catcher, covers, catches, is_handler_of}
use Rattle.je_machine.proofs.HandlerLemmas.{catcher_joined}
use Rattle.je_splice.specs.Block.{Block}
use Rattle.je_splice.specs.Layout.{moved_entry, has_range, operation_codes, Item, Keeps, Puts, body_width, width, moved_to, width_there, shut, own_handlers, own_from, laid_handlers, Within}
use Rattle.je_splice.proofs.LayoutLemmas.{next_begins, rises, shut_within}

-- ---- tests

pub bool_same : (a b : Bool) → (IsTrue a → IsTrue b) → (IsTrue b → IsTrue a) → a ≡ b
bool_same true true f g = refl
bool_same true false f g = let e : false ≡ true = f refl in absurd cc
bool_same false true f g = let e : false ≡ true = g refl in absurd cc
bool_same false false f g = refl

first_of_both : (a b : Bool) → IsTrue (a && b) → IsTrue a
first_of_both true b h = refl
first_of_both false b h = absurd cc

second_of_both : (a b : Bool) → IsTrue (a && b) → IsTrue b
second_of_both true b h = h
second_of_both false b h = absurd cc

both : (a b : Bool) → IsTrue a → IsTrue b → IsTrue (a && b)
both true b h k = k
both false b h k = absurd cc

not_true : (b : Bool) → (IsTrue b → ⊥) → b ≡ false
not_true true h = absurd (h refl)
not_true false h = refl

pub covers_from : (place : ℕ) (h : Handler) → IsTrue (covers place h) → h.start ≤ place
covers_from place h c = leb-true h.start place (first_of_both (nat_le h.start place) (nat_lt place h.end) c)

pub covers_to : (place : ℕ) (h : Handler) → IsTrue (covers place h) → place < h.end
covers_to place h c = ltb-true place h.end (second_of_both (nat_le h.start place) (nat_lt place h.end) c)

pub covers_by : (place : ℕ) (h : Handler) → h.start ≤ place → place < h.end → IsTrue (covers place h)
covers_by place h low high = both (nat_le h.start place) (nat_lt place h.end) (le-leb h.start place low) (lt-ltb place h.end high)

-- ---- entries that are moved, that cover nothing, and that lie elsewhere

first_moved : (start end target : ℕ → ℕ) (b : Bool) (h : Handler) (rest rest' : Option Handler)
    → option_map (λ (g : Handler). g.target) rest' ≡ option_map target (option_map (λ (g : Handler). g.target) rest)
    → option_map (λ (g : Handler). g.target) (cond b (Some (moved_entry start end target h)) rest') ≡ option_map target (option_map (λ (g : Handler). g.target) (cond b (Some h) rest))
first_moved start end target true h rest rest' e = refl
first_moved start end target false h rest rest' e = e

module _ (classes : Classes) (heap : Heap) (v : Value) where
  test_moved : (start end target : ℕ → ℕ) (h : Handler) (place place' : ℕ) → covers place' (moved_entry start end target h) ≡ covers place h
      → is_handler_of classes heap v place' (moved_entry start end target h) ≡ is_handler_of classes heap v place h
  test_moved start end target h place place' e = ap (λ (b : Bool). b && catches classes heap v h.catch_class) e

  pub catcher_moved : (start end target : ℕ → ℕ) (hs : List Handler) (place place' : ℕ) → ((h : Handler) → covers place' (moved_entry start end target h) ≡ covers place h)
      → catcher (map (moved_entry start end target) hs) classes place' heap v ≡ option_map target (catcher hs classes place heap v)
  catcher_moved start end target [] place place' each = refl
  catcher_moved start end target (h ∷ hs) place place' each =
      let moved = moved_entry start end target in
      let rest = find (is_handler_of classes heap v place) hs in
      let rest' = find (is_handler_of classes heap v place') (map moved hs) in
      ap (λ (b : Bool). option_map (λ (g : Handler). g.target) (cond b (Some (moved h)) rest')) (test_moved start end target h place place' (each h))
      ∙ first_moved start end target (is_handler_of classes heap v place h) h rest rest' (catcher_moved start end target hs place place' each)

  first_none : (b : Bool) (h : Handler) (rest : Option Handler) → b ≡ false → option_map (λ (g : Handler). g.target) rest ≡ None
      → option_map (λ (g : Handler). g.target) (cond b (Some h) rest) ≡ None
  first_none true h rest e none = absurd cc
  first_none false h rest e none = none

  pub catcher_none : (hs : List Handler) (place : ℕ) → AllByRecursion (λ h. IsTrue (covers place h) → ⊥) hs → catcher hs classes place heap v ≡ None
  catcher_none [] place each = refl
  catcher_none (h ∷ hs) place each =
      first_none (is_handler_of classes heap v place h) h (find (is_handler_of classes heap v place) hs)
      (not_true (is_handler_of classes heap v place h) (λ c. each.0 (first_of_both (covers place h) (catches classes heap v h.catch_class) c))) (catcher_none hs place each.1)

  same_first : (b : Bool) (h : Handler) (rest rest' : Option Handler) → option_map (λ (g : Handler). g.target) rest ≡ option_map (λ (g : Handler). g.target) rest'
      → option_map (λ (g : Handler). g.target) (cond b (Some h) rest) ≡ option_map (λ (g : Handler). g.target) (cond b (Some h) rest')
  same_first true h rest rest' e = refl
  same_first false h rest rest' e = e

  ranged : (b : Bool) (h : Handler) (rest rest' : List Handler) (place : ℕ) → (IsTrue (covers place h) → IsTrue b)
      → catcher rest classes place heap v ≡ catcher rest' classes place heap v
      → catcher (cond b (h ∷ rest) rest) classes place heap v ≡ catcher (h ∷ rest') classes place heap v
  ranged true h rest rest' place covered e =
      let test = is_handler_of classes heap v place in
      same_first (test h) h (find test rest) (find test rest') e
  ranged false h rest rest' place covered e =
      let test = is_handler_of classes heap v place in
      e
      ∙ ap (λ (b : Bool). option_map (λ (g : Handler). g.target) (cond b (Some h) (find test rest')))
      (sym (not_true (test h) (λ c. let e : false ≡ true = covered (first_of_both (covers place h) (catches classes heap v h.catch_class) c) in absurd cc)))

  -- what covers nothing is never met
  pub catcher_ranged : (hs : List Handler) (place : ℕ) → catcher (filter has_range hs) classes place heap v ≡ catcher hs classes place heap v
  catcher_ranged [] place = refl
  catcher_ranged (h ∷ hs) place =
      ranged (has_range h) h (filter has_range hs) hs place
      (λ c. let low = covers_from place h c in let high = covers_to place h c in lt-ltb h.start h.end (omega (arith, low, high))) (catcher_ranged hs place)

  -- ---- a piece's own entries

  -- those of the piece, counted from where it stands
  pub catcher_own : (hs : List Handler) (at k : ℕ)
      → catcher (map (moved_entry (λ s. at + s) (λ e. at + e) (λ t. at + t)) hs) classes (at + k) heap v ≡ option_map (λ t. at + t) (catcher hs classes k heap v)
  catcher_own hs at k =
      catcher_moved (λ s. at + s) (λ e. at + e) (λ t. at + t) hs k (at + k)
      (λ h.
      let g = moved_entry (λ s. at + s) (λ e. at + e) (λ t. at + t) h in
      bool_same (covers (at + k) g) (covers k h)
      (λ c. let low = covers_from (at + k) g c in let high = covers_to (at + k) g c in covers_by k h (omega (arith, low)) (omega (arith, high)))
      (λ c. let low = covers_from k h c in let high = covers_to k h c in covers_by (at + k) g (omega (arith, low)) (omega (arith, high))))

  not_before : (hs : List Handler) (at place : ℕ) → place < at
      → AllByRecursion (λ h. IsTrue (covers place h) → ⊥) (map (moved_entry (λ s. at + s) (λ e. at + e) (λ t. at + t)) hs)
  not_before [] at place less = tt
  not_before (h ∷ hs) at place less =
      let g = moved_entry (λ s. at + s) (λ e. at + e) (λ t. at + t) h in
      (λ c. let low = covers_from place g c in absurd (omega (arith, low, less)), not_before hs at place less)

  not_behind : (hs : List Handler) (size at place : ℕ) → AllByRecursion (λ (h : Handler). h.end ≤ size) hs → at + size ≤ place
      → AllByRecursion (λ h. IsTrue (covers place h) → ⊥) (map (moved_entry (λ s. at + s) (λ e. at + e) (λ t. at + t)) hs)
  not_behind [] size at place within le = tt
  not_behind (h ∷ hs) size at place within le =
      let g = moved_entry (λ s. at + s) (λ e. at + e) (λ t. at + t) h in
      let high = within.0 in
      (λ c. let low = covers_to place g c in absurd (omega (arith, low, le, high)), not_behind hs size at place within.1 le)

  -- ---- those of all pieces

  own_before : (item : Item Operation Block) (at place : ℕ) → place < at → catcher (own_handlers operation_codes at item) classes place heap v ≡ None
  own_before (Keeps over operation) at place less = refl
  own_before (Puts over block) at place less = catcher_none _ place (not_before block.handlers at place less)

  own_behind : (item : Item Operation Block) (at place : ℕ) → Within item → at + body_width item ≤ place → catcher (own_handlers operation_codes at item) classes place heap v ≡ None
  own_behind (Keeps over operation) at place within le = refl
  own_behind (Puts over block) at place within le = catcher_none _ place (not_behind block.handlers (length block.code) at place within le)

  or_none : (o : Option ℕ) (p : Option ℕ) → p ≡ None → option_or o p ≡ o
  or_none None p e = e
  or_none (Some x) p e = refl

  none_or : (o p : Option ℕ) → o ≡ None → option_or o p ≡ p
  none_or o p e = ap (λ x. option_or x p) e

  own_later : (items : List (Item Operation Block)) (at place : ℕ) → place < at → catcher (own_from operation_codes at items) classes place heap v ≡ None
  own_later [] at place less = refl
  own_later (x ∷ items) at place less =
      catcher_joined (own_handlers operation_codes at x) (own_from operation_codes (at + width x) items) classes place heap v
      ∙ none_or (catcher (own_handlers operation_codes at x) classes place heap v) (catcher (own_from operation_codes (at + width x) items) classes place heap v) (own_before x at place less)
      ∙ own_later items (at + width x) place (omega (arith, less))

  some_is : (x y : Item Operation Block) → Some x ≡ Some y → x ≡ y
  some_is x y e = cc

  -- within an item its own entries alone are met
  own_there : (items : List (Item Operation Block)) (at place k n : ℕ) (item : Item Operation Block) → slice_get items place ≡ Some item
      → ((i : ℕ) (x : Item Operation Block) → slice_get items i ≡ Some x → Within x) → n ≡ at + moved_to items place + k → k < body_width item
      → catcher (own_from operation_codes at items) classes n heap v ≡ catcher (own_handlers operation_codes (at + moved_to items place) item) classes n heap v
  own_there [] at place k n item is within e less = absurd cc
  own_there (x ∷ items) at zero k n item is within e less =
      let same : x ≡ item = some_is x item is in
      let size : body_width x ≡ body_width item = ap (λ (y : Item Operation Block). body_width y) same in
      let no_width : at ≡ at + 0 = omega arith in
      catcher_joined (own_handlers operation_codes at x) (own_from operation_codes (at + width x) items) classes n heap v
      ∙ or_none (catcher (own_handlers operation_codes at x) classes n heap v) (catcher (own_from operation_codes (at + width x) items) classes n heap v)
      (own_later items (at + width x) n (omega (arith, e, less, size)))
      ∙ ap (λ y. catcher (own_handlers operation_codes at y) classes n heap v) same
      ∙ ap (λ (a : ℕ). catcher (own_handlers operation_codes a item) classes n heap v) no_width
  own_there (x ∷ items) at (suc place) k n item is within e less =
      let widths : at + width x + moved_to items place ≡ at + (width x + moved_to items place) = omega arith in
      catcher_joined (own_handlers operation_codes at x) (own_from operation_codes (at + width x) items) classes n heap v
      ∙ none_or (catcher (own_handlers operation_codes at x) classes n heap v) (catcher (own_from operation_codes (at + width x) items) classes n heap v)
      (own_behind x at n (within zero x refl) (omega (arith, e)))
      ∙ own_there items (at + width x) place k n item is (λ i y h. within (suc i) y h) (omega (arith, e)) less
      ∙ ap (λ (a : ℕ). catcher (own_handlers operation_codes a item) classes n heap v) widths

  -- ---- the old entries

  shut_by : (items : List (Item Operation Block)) (last : ℕ) (item : Item Operation Block) → slice_get items last ≡ Some item
      → shut items (suc last) ≡ moved_to items last + body_width item
  shut_by items last item is = ap (λ there. moved_to items last + width_there there) is

  low_same : (items : List (Item Operation Block)) (start place k : ℕ) (item : Item Operation Block) → slice_get items place ≡ Some item → k < body_width item
      → moved_to items start ≤ moved_to items place + k → (start ≤ place) ⊎ (place < start) → start ≤ place
  low_same items start place k item is less h (inl le) = le
  low_same items start place k item is less h (inr more) =
      let next = next_begins items place item is in
      let rise = rises items (suc place) start more in
      absurd (omega (arith, less, h, next, rise))

  le_or_more : (a b : ℕ) → (a ≤ b) ⊎ (b < a)
  le_or_more zero b = inl (omega arith)
  le_or_more (suc a) zero = inr (omega arith)
  le_or_more (suc a) (suc b) = elim (le_or_more a b) [ inl h ↦ inl (omega (arith, h)) | inr h ↦ inr (omega (arith, h)) ]

  high_back : (items : List (Item Operation Block)) (end place k : ℕ) → moved_to items place + k < shut items end → (end ≤ place) ⊎ (place < end) → place < end
  high_back items end place k h (inr less) = less
  high_back items zero place k h (inl le) = absurd (omega (arith, h))
  high_back items (suc last) place k h (inl le) =
      let within = shut_within items last in
      let rise = rises items (suc last) place le in
      absurd (omega (arith, h, within, rise))

  high_by : (items : List (Item Operation Block)) (last place k : ℕ) (item : Item Operation Block) → slice_get items place ≡ Some item → k < body_width item
      → place ≤ last → (last ≤ place) ⊎ (place < last) → moved_to items place + k < shut items (suc last)
  high_by items last place k item is less le (inl back) =
      let same : last ≡ place = omega (arith, le, back) in
      let shuts = shut_by items place item is in
      subst (λ (l : ℕ). moved_to items place + k < shut items (suc l)) (sym same) (omega (arith, less, shuts))
  high_by items last place k item is less le (inr more) =
      let next = next_begins items place item is in
      let rise = rises items (suc place) last more in
      omega (arith, less, next, rise)

  high_there : (items : List (Item Operation Block)) (end place k : ℕ) (item : Item Operation Block) → slice_get items place ≡ Some item → k < body_width item
      → place < end → moved_to items place + k < shut items end
  high_there items zero place k item is less h = absurd (omega (arith, h))
  high_there items (suc last) place k item is less h = high_by items last place k item is less (omega (arith, h)) (le_or_more last place)

  old_covers : (items : List (Item Operation Block)) (place k : ℕ) (item : Item Operation Block) → slice_get items place ≡ Some item → k < body_width item → (h : Handler)
      → covers (moved_to items place + k) (moved_entry (moved_to items) (shut items) (moved_to items) h) ≡ covers place h
  old_covers items place k item is less h =
      let g = moved_entry (moved_to items) (shut items) (moved_to items) h in
      let n = moved_to items place + k in
      bool_same (covers n g) (covers place h)
      (λ c.
      covers_by place h (low_same items h.start place k item is less (covers_from n g c) (le_or_more h.start place))
      (high_back items h.end place k (covers_to n g c) (le_or_more h.end place)))
      (λ c.
      let rise = rises items h.start place (covers_from place h c) in
      covers_by n g (omega (arith, rise)) (high_there items h.end place k item is less (covers_to place h c)))

  -- ---- the whole

  pub laid_catcher : (items : List (Item Operation Block)) (handlers : List Handler) (place k : ℕ) (item : Item Operation Block) → slice_get items place ≡ Some item
      → ((i : ℕ) (x : Item Operation Block) → slice_get items i ≡ Some x → Within x) → k < body_width item
      → catcher (laid_handlers operation_codes items handlers) classes (moved_to items place + k) heap v
      ≡ option_or (catcher (own_handlers operation_codes (moved_to items place) item) classes (moved_to items place + k) heap v)
      (option_map (moved_to items) (catcher handlers classes place heap v))
  laid_catcher items handlers place k item is within less =
      let n = moved_to items place + k in
      let own = own_from operation_codes 0 items in
      let old = map (moved_entry (moved_to items) (shut items) (moved_to items)) handlers in
      let no_more : n ≡ 0 + moved_to items place + k = omega arith in
      let no_width : 0 + moved_to items place ≡ moved_to items place = omega arith in
      catcher_ranged (own ++ old) n
      ∙ catcher_joined own old classes n heap v
      ∙ ap (λ o. option_or o (catcher old classes n heap v))
      (own_there items 0 place k n item is within no_more less ∙ ap (λ (a : ℕ). catcher (own_handlers operation_codes a item) classes n heap v) no_width)
      ∙ ap (option_or (catcher (own_handlers operation_codes (moved_to items place) item) classes n heap v))
      (catcher_moved (moved_to items) (shut items) (moved_to items) handlers place n (old_covers items place k item is less))
