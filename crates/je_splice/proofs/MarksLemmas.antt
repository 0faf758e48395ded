-- Where the pieces that are put at indexes stand, and to where they lead.
use Rattle.std.proofs.Common.{◌≡◌, ℕ, zero, suc, ◌+◌, ◌-◌, ◌<◌, ◌≤◌, List, [], ◌∷◌, ◌++◌, length, Option, Some, None, Bool, true, false, cond, refl, sym, ap, subst, ◌∙◌, ◌⊎◌, inl, inr, arith, length-append}
use Rattle.std.specs.Prelude.{◌&&◌, IsTrue, map, option_map, slice_get}
use Rattle.std.specs.List.{find}
use Rattle.je_machine.specs.Value.{Value}
use Rattle.je_machine.specs.Heap.{Heap}
use Rattle.je_machine.specs.Classes.{Classes}
use Rattle.je_machine.specs.Operation.{Handler}
use Rattle.je_machine.specs.Machine.{catcher, covers, catches, is_handler_of}
use Rattle.je_splice.specs.Layout.{Codes, operation_codes, moved_entry, Item, Keeps, Puts, next_by}
use Rattle.je_splice.specs.Marks.{Marks, places_of, lead_width, OnlyInstead, first_of, arrive, stand, over_if, entry_items, last_item, index_items, items_from, lead_items, marked_items, entry_target, marked_handlers, IsPut, IsKept, fall_to, marked_target}
use Rattle.je_splice.proofs.CatcherLemmas.{bool_same, covers_from, covers_to, covers_by}
use Rattle.je_splice.proofs.LayoutLemmas.{get_front, get_behind, get_mapped, mapped_length}

over_true : (b : Bool) (places : ℕ) → IsTrue b → over_if b places ≡ places
over_true true places h = refl
over_true false places h = absurd cc

-- ---- the places of indexes

module _ {X H : Type 0} (m : Marks X H) where
  first_more : (i more : ℕ) → first_of m i ≤ first_of m (i + more)
  first_more i zero =
      let none : i + 0 ≡ i = omega arith in
      let same : first_of m (i + 0) ≡ first_of m i = ap (first_of m) none in
      omega (arith, same)
  first_more i (suc more) =
      let next : i + suc more ≡ suc (i + more) = omega arith in
      let same : first_of m (i + suc more) ≡ first_of m (suc (i + more)) = ap (first_of m) next in
      omega (arith, same, first_more i more)

  pub first_rises : (i j : ℕ) → i ≤ j → first_of m i ≤ first_of m j
  first_rises i j h =
      let sum : i + (j - i) ≡ j = omega (arith, h) in
      subst (λ (n : ℕ). first_of m i ≤ first_of m n) sum (first_more i (j - i))

  pub stand_before : (i : ℕ) → suc (stand m i) ≡ first_of m (suc i)
  stand_before i = omega arith

  stand_by : (i j : ℕ) → (i ≡ j) ⊎ (i < j) → stand m i ≤ stand m j
  stand_by i j (inl e) = let same : stand m i ≡ stand m j = ap (stand m) e in omega (arith, same)
  stand_by i j (inr less) =
      let last = stand_before i in
      let rise = first_rises (suc i) j less in
      omega (arith, last, rise)

  same_or_less : (i j : ℕ) → i ≤ j → (i ≡ j) ⊎ (i < j)
  same_or_less zero zero h = inl refl
  same_or_less zero (suc j) h = inr (omega arith)
  same_or_less (suc i) zero h = absurd (omega (arith, h))
  same_or_less (suc i) (suc j) h = elim (same_or_less i j (omega (arith, h))) [ inl e ↦ inl (ap suc e) | inr less ↦ inr (omega (arith, less)) ]

  pub stand_rises : (i j : ℕ) → i ≤ j → stand m i ≤ stand m j
  stand_rises i j h = stand_by i j (same_or_less i j h)

  -- where nothing else is put, places are indexes
  module _ (only : OnlyInstead m) where
    one_place : (i : ℕ) → places_of m i ≡ 1
    one_place i =
        let entries = ap length (only.entries i) in
        let passed = ap length (only.passed i) in
        let met = ap length (only.met i) in
        omega (arith, entries, passed, met)

    pub first_alone : (i : ℕ) → first_of m i ≡ i
    first_alone zero = ap (λ (xs : List X). lead_width (length xs)) (only.entries 0)
    first_alone (suc i) = omega (arith, first_alone i, one_place i)

    pub arrive_alone : (i : ℕ) → arrive m i ≡ i
    arrive_alone i =
        let entries = ap length (only.entries i) in
        let passed = ap length (only.passed i) in
        omega (arith, entries, passed, first_alone i)

    pub stand_alone : (i : ℕ) → stand m i ≡ i
    stand_alone i = let met = ap length (only.met i) in omega (arith, met, arrive_alone i)

module _ {A X H : Type 0} (codes : Codes A H) (m : Marks X H) where
  -- ---- the items of an index

  entry_length : (passed : ℕ) (xs : List X) → length (entry_items {A = A} m passed xs) ≡ length xs
  entry_length passed [] = refl
  entry_length passed (x ∷ xs) = ap suc (entry_length passed xs)

  index_length : (i : ℕ) (a : A) → length (index_items codes m i a) ≡ places_of m i
  index_length i a =
      let entries = entry_items {A = A} m (length (m.passed i)) (m.entries i) in
      let passed : List (Item A X) = map (λ x. Puts 0 x) (m.passed i) in
      let met : List (Item A X) = map (λ x. Puts 0 x) (m.met i) in
      let last = last_item codes m i a (m.instead i) ∷ [] in
      let first = length-append entries (passed ++ (met ++ last)) in
      let second = length-append passed (met ++ last) in
      let third = length-append met last in
      let entries_length = entry_length (length (m.passed i)) (m.entries i) in
      let passed_length = mapped_length {B = Item A X} (λ x. Puts 0 x) (m.passed i) in
      let met_length = mapped_length {B = Item A X} (λ x. Puts 0 x) (m.met i) in
      omega (arith, first, second, third, entries_length, passed_length, met_length)

  some_is : (a b : A) → Some a ≡ Some b → a ≡ b
  some_is a b e = cc

  -- what stands among an index's items stands in the whole
  from_stands : (code : List A) (base i k n : ℕ) (a : A) (item : Item A X) → slice_get code i ≡ Some a → slice_get (index_items codes m (base + i) a) k ≡ Some item
      → n + first_of m base ≡ first_of m (base + i) + k → slice_get (items_from codes m base code) n ≡ Some item
  from_stands [] base i k n a item is h e = absurd cc
  from_stands (b ∷ code) base zero k n a item is h e =
      let same : b ≡ a = some_is b a is in
      let no_more : base + 0 ≡ base = omega arith in
      let first : first_of m (base + 0) ≡ first_of m base = ap (first_of m) no_more in
      let there : n ≡ k = omega (arith, e, first) in
      ap (slice_get (items_from codes m base (b ∷ code))) there
      ∙ get_front (index_items codes m base b) (items_from codes m (suc base) code) k item
      (ap (λ c. slice_get (index_items codes m base c) k) same ∙ ap (λ (p : ℕ). slice_get (index_items codes m p a) k) (sym no_more) ∙ h)
  from_stands (b ∷ code) base (suc i) k n a item is h e =
      let size = index_length base b in
      let next : base + suc i ≡ suc base + i = omega arith in
      let first : first_of m (base + suc i) ≡ first_of m (suc base + i) = ap (first_of m) next in
      let rise = first_rises m (suc base) (suc base + i) (omega arith) in
      get_behind (index_items codes m base b) (items_from codes m (suc base) code) (n - places_of m base) n (omega (arith, size, e, first, rise))
      ∙ from_stands code (suc base) i k (n - places_of m base) a item is (ap (λ (p : ℕ). slice_get (index_items codes m p a) k) (sym next) ∙ h)
      (omega (arith, e, first, rise))

  lead_length : (entries : ℕ) → length (lead_items {A = A} {X = X} codes entries) ≡ lead_width entries
  lead_length zero = refl
  lead_length (suc entries) = refl

  index_stands : (code : List A) (i k n : ℕ) (a : A) (item : Item A X) → slice_get code i ≡ Some a → slice_get (index_items codes m i a) k ≡ Some item
      → n ≡ first_of m i + k → slice_get (marked_items codes m code) n ≡ Some item
  index_stands code i k n a item is h e =
      let size = lead_length (length (m.entries 0)) in
      let rise = first_rises m 0 i (omega arith) in
      let no_more : 0 + i ≡ i = omega arith in
      let first : first_of m (0 + i) ≡ first_of m i = ap (first_of m) no_more in
      get_behind (lead_items codes (length (m.entries 0))) (items_from codes m 0 code) (n - first_of m 0) n (omega (arith, size, e, rise))
      ∙ from_stands code 0 i k (n - first_of m 0) a item is (ap (λ (p : ℕ). slice_get (index_items codes m p a) k) no_more ∙ h) (omega (arith, e, rise, first))

  -- ---- each of them

  is_same : (x y : X) → Some x ≡ Some y → x ≡ y
  is_same x y e = cc

  entry_get : (passed : ℕ) (xs : List X) (k : ℕ) (x : X) → slice_get xs k ≡ Some x
      → (over : ℕ) × (slice_get (entry_items {A = A} m passed xs) k ≡ Some (Puts over x)) × (IsTrue (m.completes x) → suc k + over ≡ length xs + passed)
  entry_get passed [] k x is = absurd cc
  entry_get passed (y ∷ xs) zero x is =
      let same : y ≡ x = is_same y x is in (
        over_if (m.completes x) (length xs + passed),
        ap (λ z. Some (Puts (over_if (m.completes z) (length xs + passed)) z)) same,
        λ c. let e = over_true (m.completes x) (length xs + passed) c in omega (arith, e),
      )
  entry_get passed (y ∷ xs) (suc k) x is =
      let rest = entry_get passed xs k x is in
      (rest.0, rest.1, λ c. let e = rest.2 c in omega (arith, e))

  is_put : (items : List (Item A X)) (place over next : ℕ) (x : X) (completes : Bool) → slice_get items place ≡ Some (Puts over x) → (IsTrue completes → suc place + over ≡ next)
      → IsPut items place x completes next
  is_put items place over next x completes stands leads = record {
    over = over;
    stands = stands;
    leads = λ c. ap (next_by place) stands ∙ leads c;
  }

  pub entry_stands : (code : List A) (i k : ℕ) (a : A) (x : X) → slice_get code i ≡ Some a → slice_get (m.entries i) k ≡ Some x
      → IsPut (marked_items codes m code) (first_of m i + k) x (m.completes x) (arrive m i)
  entry_stands code i k a x is h =
      let e = entry_get (length (m.passed i)) (m.entries i) k x h in
      is_put (marked_items codes m code) (first_of m i + k) e.0 (arrive m i) x (m.completes x)
      (index_stands code i k (first_of m i + k) a (Puts e.0 x) is (get_front (entry_items m (length (m.passed i)) (m.entries i)) _ k (Puts e.0 x) e.1) refl)
      (λ c. let sum = e.2 c in omega (arith, sum))

  put_get : (xs : List X) (rest : List (Item A X)) (k : ℕ) (x : X) → slice_get xs k ≡ Some x → slice_get (map (λ y. Puts 0 y) xs ++ rest) k ≡ Some (Puts 0 x)
  put_get xs rest k x h = get_front (map (λ y. Puts 0 y) xs) rest k (Puts 0 x) (get_mapped (λ y. Puts 0 y) xs k ∙ ap (option_map (λ y. Puts 0 y)) h)

  pub passed_stands : (code : List A) (i k : ℕ) (a : A) (x : X) → slice_get code i ≡ Some a → slice_get (m.passed i) k ≡ Some x
      → IsPut (marked_items codes m code) (fall_to m i + k) x true (suc (fall_to m i + k))
  passed_stands code i k a x is h =
      let entries = entry_items {A = A} m (length (m.passed i)) (m.entries i) in
      let size = entry_length (length (m.passed i)) (m.entries i) in
      is_put (marked_items codes m code) (fall_to m i + k) 0 (suc (fall_to m i + k)) x true
      (index_stands code i (length (m.entries i) + k) (fall_to m i + k) a (Puts 0 x) is
      (get_behind entries (map (λ y. Puts 0 y) (m.passed i) ++ (map (λ y. Puts 0 y) (m.met i) ++ last_item codes m i a (m.instead i) ∷ [])) k (length (m.entries i) + k) (omega (arith, size))
      ∙ put_get (m.passed i) (map (λ y. Puts 0 y) (m.met i) ++ last_item codes m i a (m.instead i) ∷ []) k x h) (omega arith))
      (λ c. omega arith)

  -- behind the entries and what jumps pass by
  behind_passed : (i k n : ℕ) (a : A) → n ≡ length (m.entries i) + (length (m.passed i) + k)
      → slice_get (index_items codes m i a) n ≡ slice_get (map (λ y. Puts 0 y) (m.met i) ++ last_item codes m i a (m.instead i) ∷ []) k
  behind_passed i k n a e =
      let entries = entry_items {A = A} m (length (m.passed i)) (m.entries i) in
      let passed : List (Item A X) = map (λ y. Puts 0 y) (m.passed i) in
      let rest = map (λ y. Puts 0 y) (m.met i) ++ last_item codes m i a (m.instead i) ∷ [] in
      let size = entry_length (length (m.passed i)) (m.entries i) in
      let passed_size = mapped_length {B = Item A X} (λ y. Puts 0 y) (m.passed i) in
      get_behind entries (passed ++ rest) (length (m.passed i) + k) n (omega (arith, size, e))
      ∙ get_behind passed rest k (length (m.passed i) + k) (omega (arith, passed_size))

  pub met_stands : (code : List A) (i k : ℕ) (a : A) (x : X) → slice_get code i ≡ Some a → slice_get (m.met i) k ≡ Some x
      → IsPut (marked_items codes m code) (arrive m i + k) x true (suc (arrive m i + k))
  met_stands code i k a x is h =
      is_put (marked_items codes m code) (arrive m i + k) 0 (suc (arrive m i + k)) x true
      (index_stands code i (length (m.entries i) + (length (m.passed i) + k)) (arrive m i + k) a (Puts 0 x) is
      (behind_passed i k (length (m.entries i) + (length (m.passed i) + k)) a refl
      ∙ put_get (m.met i) (last_item codes m i a (m.instead i) ∷ []) k x h) (omega arith))
      (λ c. omega arith)

  last_stands : (code : List A) (i : ℕ) (a : A) → slice_get code i ≡ Some a → slice_get (marked_items codes m code) (stand m i) ≡ Some (last_item codes m i a (m.instead i))
  last_stands code i a is =
      let met : List (Item A X) = map (λ y. Puts 0 y) (m.met i) in
      let met_size = mapped_length {B = Item A X} (λ y. Puts 0 y) (m.met i) in
      index_stands code i (length (m.entries i) + (length (m.passed i) + length (m.met i))) (stand m i) a (last_item codes m i a (m.instead i)) is
      (behind_passed i (length (m.met i)) (length (m.entries i) + (length (m.passed i) + length (m.met i))) a refl
      ∙ get_behind met (last_item codes m i a (m.instead i) ∷ []) 0 (length (m.met i)) (omega (arith, met_size))) (omega arith)

  pub instruction_stands : (code : List A) (i : ℕ) (a : A) → slice_get code i ≡ Some a → m.instead i ≡ None
      → IsKept (marked_items codes m code) (stand m i) (codes.keep (arrive m) a) (codes.falls a) (fall_to m (suc i))
  instruction_stands code i a is none =
      let stands = last_stands code i a is ∙ ap (λ o. Some (last_item codes m i a o)) none in
      record {
        over = over_if (codes.falls a) (length (m.entries (suc i)));
        stands = stands;
        leads = λ c.
            let over = over_true (codes.falls a) (length (m.entries (suc i))) c in
            let next : suc (stand m i) + over_if (codes.falls a) (length (m.entries (suc i))) ≡ fall_to m (suc i) = omega (arith, over) in
            ap (next_by (stand m i)) stands ∙ next;
      }

  pub instead_stands : (code : List A) (i : ℕ) (a : A) (x : X) → slice_get code i ≡ Some a → m.instead i ≡ Some x
      → IsPut (marked_items codes m code) (stand m i) x (m.completes x) (fall_to m (suc i))
  instead_stands code i a x is some =
      is_put (marked_items codes m code) (stand m i) (over_if (m.completes x) (length (m.entries (suc i)))) (fall_to m (suc i)) x (m.completes x)
      (last_stands code i a is ∙ ap (λ o. Some (last_item codes m i a o)) some)
      (λ c. let over = over_true (m.completes x) (length (m.entries (suc i))) c in omega (arith, over))

  -- ---- the start, and the whole length

  pub lead_stands : (code : List A) (entries : ℕ) → length (m.entries 0) ≡ suc entries → slice_get (marked_items codes m code) 0 ≡ Some (Keeps 0 (codes.jump 0 (fall_to m 0)))
  lead_stands code entries e =
      let first : first_of m 0 ≡ 1 = ap lead_width e in
      let there : suc (suc entries) ≡ fall_to m 0 = omega (arith, e, first) in
      ap (λ (n : ℕ). slice_get (lead_items codes n ++ items_from codes m 0 code) 0) e ∙ ap (λ (n : ℕ). Some (Keeps 0 (codes.jump 0 n))) there

  from_length : (code : List A) (i : ℕ) → length (items_from codes m i code) + first_of m i ≡ first_of m (i + length code)
  from_length [] i =
      let none : i + 0 ≡ i = omega arith in
      let first : first_of m (i + 0) ≡ first_of m i = ap (first_of m) none in
      omega (arith, first)
  from_length (a ∷ code) i =
      let size = index_length i a in
      let sum = length-append (index_items codes m i a) (items_from codes m (suc i) code) in
      let rest = from_length code (suc i) in
      let next : suc i + length code ≡ i + suc (length code) = omega arith in
      let first : first_of m (suc i + length code) ≡ first_of m (i + suc (length code)) = ap (first_of m) next in
      omega (arith, size, sum, rest, first)

  pub marked_length : (code : List A) → length (marked_items codes m code) ≡ first_of m (length code)
  marked_length code =
      let size = lead_length (length (m.entries 0)) in
      let sum = length-append (lead_items {A = A} {X = X} codes (length (m.entries 0))) (items_from codes m 0 code) in
      let rest = from_length code 0 in
      let none : 0 + length code ≡ length code = omega arith in
      let first : first_of m (0 + length code) ≡ first_of m (length code) = ap (first_of m) none in
      omega (arith, size, sum, rest, first)

-- ---- where throws go

module _ {X : Type 0} (m : Marks X Handler) (classes : Classes) (heap : Heap) (v : Value) where
  le_or_more : (a b : ℕ) → (a ≤ b) ⊎ (b < a)
  le_or_more zero b = inl (omega arith)
  le_or_more (suc a) zero = inr (omega arith)
  le_or_more (suc a) (suc b) = elim (le_or_more a b) [ inl h ↦ inl (omega (arith, h)) | inr h ↦ inr (omega (arith, h)) ]

  low_back : (start i n : ℕ) → n < first_of m (suc i) → first_of m start ≤ n → (start ≤ i) ⊎ (i < start) → start ≤ i
  low_back start i n less h (inl le) = le
  low_back start i n less h (inr more) = let rise = first_rises m (suc i) start more in absurd (omega (arith, less, h, rise))

  high_back : (end i n : ℕ) → first_of m i ≤ n → n < first_of m end → (end ≤ i) ⊎ (i < end) → i < end
  high_back end i n le h (inr less) = less
  high_back end i n le h (inl back) = let rise = first_rises m end i back in absurd (omega (arith, le, h, rise))

  abbrev moved : Handler → Handler
  moved h = moved_entry (first_of m) (first_of m) (entry_target m (m.entry_of h)) h

  covers_marked : (i n : ℕ) (h : Handler) → first_of m i ≤ n → n < first_of m (suc i) → covers n (moved h) ≡ covers i h
  covers_marked i n h low high =
      bool_same (covers n (moved h)) (covers i h)
      (λ c.
      covers_by i h (low_back h.start i n high (covers_from n (moved h) c) (le_or_more h.start i))
      (high_back h.end i n low (covers_to n (moved h) c) (le_or_more h.end i)))
      (λ c.
      let start = first_rises m h.start i (covers_from i h c) in
      let less = covers_to i h c in
      let end = first_rises m (suc i) h.end less in
      covers_by n (moved h) (omega (arith, start, low)) (omega (arith, end, high)))

  first_marked : (b : Bool) (h : Handler) (rest rest' : Option Handler)
      → option_map (λ (g : Handler). g.target) rest' ≡ option_map (marked_target m) rest
      → option_map (λ (g : Handler). g.target) (cond b (Some (moved h)) rest') ≡ option_map (marked_target m) (cond b (Some h) rest)
  first_marked true h rest rest' e = refl
  first_marked false h rest rest' e = e

  pub marked_catcher : (hs : List Handler) (i n : ℕ) → first_of m i ≤ n → n < first_of m (suc i)
      → catcher (marked_handlers operation_codes m hs) classes n heap v ≡ option_map (marked_target m) (find (is_handler_of classes heap v i) hs)
  marked_catcher [] i n low high = refl
  marked_catcher (h ∷ hs) i n low high =
      let rest = find (is_handler_of classes heap v i) hs in
      let rest' = find (is_handler_of classes heap v n) (marked_handlers operation_codes m hs) in
      ap (λ (b : Bool). option_map (λ (g : Handler). g.target) (cond (b && catches classes heap v h.catch_class) (Some (moved h)) rest')) (covers_marked i n h low high)
      ∙ first_marked (is_handler_of classes heap v i h) h rest rest' (marked_catcher hs i n low high)
