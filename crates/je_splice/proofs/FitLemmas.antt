-- Each item of a marked method fits where its operations and its fragments do.
use Rattle.std.proofs.Common.{◌≡◌, ℕ, zero, suc, ◌+◌, ◌≤◌, List, [], ◌∷◌, ◌++◌, length, map, Option, Some, None, Bool, true, false, cond, option_map, arith}
use Rattle.std.specs.Prelude.{IfSome, filter, slice_get}
use Rattle.std.specs.List.{AllByRecursion, find}
use Rattle.je_machine.specs.Operation.{Operation, Do, Load, Store, Increment, Branch, Goto, Switch, Return, Handler}
use Rattle.je_machine.specs.Frame.{Frame}
use Rattle.je_machine.specs.Moved.{retargeted}
use Rattle.je_machine.specs.Slots.{UsesBelow}
use Rattle.je_splice.specs.Layout.{operation_codes, Item, Keeps, Puts}
use Rattle.je_splice.specs.Laid.{Fragment, FitsItem, FitsAnywhere}
use Rattle.je_splice.specs.Mapped.{mapped_item}
use Rattle.je_splice.specs.Marks.{Marks, EachPut, arrive, entry_items, last_item, index_items, items_from, lead_items, marked_items}
use Rattle.je_splice.specs.Put.{PutAt, PutBefore, is_passed, is_met, is_instead, leads_to, marks_of}
use Rattle.je_splice.specs.Resolved.{fragment_items}
use Rattle.je_splice.proofs.LoopLemmas.{at_each}

-- ---- limits

uses_more : (a b : ℕ) (o : Operation) → a ≤ b → UsesBelow a o → UsesBelow b o
uses_more a b (Do basic) le h = tt
uses_more a b (Load kind slot) le h = omega (arith, le, h)
uses_more a b (Store kind slot) le h = omega (arith, le, h)
uses_more a b (Increment slot by) le h = omega (arith, le, h)
uses_more a b (Branch condition target) le h = tt
uses_more a b (Goto target) le h = tt
uses_more a b (Switch cases fallback) le h = tt
uses_more a b (Return kind) le h = tt

all_more : (a b : ℕ) (os : List Operation) → a ≤ b → AllByRecursion (UsesBelow a) os → AllByRecursion (UsesBelow b) os
all_more a b [] le h = tt
all_more a b (o ∷ os) le h = (uses_more a b o le h.0, all_more a b os le h.1)

one_limit : (o : Operation) → (limit : ℕ) × UsesBelow limit o
one_limit (Do basic) = (0, tt)
one_limit (Load kind slot) = (suc slot, omega arith)
one_limit (Store kind slot) = (suc slot, omega arith)
one_limit (Increment slot by) = (suc slot, omega arith)
one_limit (Branch condition target) = (0, tt)
one_limit (Goto target) = (0, tt)
one_limit (Switch cases fallback) = (0, tt)
one_limit (Return kind) = (0, tt)

pub some_limit : (os : List Operation) → (limit : ℕ) × AllByRecursion (UsesBelow limit) os
some_limit [] = (0, tt)
some_limit (o ∷ os) =
    let one = one_limit o in
    let rest = some_limit os in
    (one.0 + rest.0, (uses_more one.0 (one.0 + rest.0) o (omega arith) one.1, all_more rest.0 (one.0 + rest.0) os (omega arith) rest.1))

uses_moved : (to : ℕ → ℕ) (limit : ℕ) (o : Operation) → UsesBelow limit o → UsesBelow limit (retargeted to o)
uses_moved to limit (Do basic) h = tt
uses_moved to limit (Load kind slot) h = h
uses_moved to limit (Store kind slot) h = h
uses_moved to limit (Increment slot by) h = h
uses_moved to limit (Branch condition target) h = tt
uses_moved to limit (Goto target) h = tt
uses_moved to limit (Switch cases fallback) h = tt
uses_moved to limit (Return kind) h = tt

-- ---- lists

both_lists : {A : Type 0} (P : A → Type 0) (xs ys : List A) → AllByRecursion P xs → AllByRecursion P ys → AllByRecursion P (xs ++ ys)
both_lists P [] ys h k = k
both_lists P (x ∷ xs) ys h k = (h.0, both_lists P xs ys h.1 k)

each_mapped : {A B : Type 0} (P : A → Type 0) (Q : B → Type 0) (f : A → B) → ((a : A) → P a → Q (f a)) → (xs : List A) → AllByRecursion P xs → AllByRecursion Q (map f xs)
each_mapped P Q f each [] h = tt
each_mapped P Q f each (x ∷ xs) h = (each x h.0, each_mapped P Q f each xs h.1)

-- ---- items

module _ {Y : Type 0} (fragment_of : Y → Fragment) (limit : ℕ) (n : Marks Y Handler) (puts : EachPut (λ (y : Y). FitsAnywhere limit (fragment_of y)) n) where
  abbrev Good : Y → Type 0
  Good y = FitsAnywhere limit (fragment_of y)

  abbrev GoodItem : Item Operation Y → Type 0
  GoodItem (Keeps over o) = UsesBelow limit o
  GoodItem (Puts over y) = Good y

  good_entries : (passed : ℕ) (ys : List Y) → AllByRecursion Good ys → AllByRecursion GoodItem (entry_items n passed ys)
  good_entries passed [] h = tt
  good_entries passed (y ∷ ys) h = (h.0, good_entries passed ys h.1)

  good_last : (i : ℕ) (o : Operation) (instead : Option Y) → UsesBelow limit o → IfSome instead Good → GoodItem (last_item operation_codes n i o instead)
  good_last i o None h k = uses_moved (arrive n) limit o h
  good_last i o (Some y) h k = k

  abbrev put : Y → Item Operation Y
  put y = Puts 0 y

  good_index : (i : ℕ) (o : Operation) → UsesBelow limit o → AllByRecursion GoodItem (index_items operation_codes n i o)
  good_index i o h =
      both_lists GoodItem (entry_items n (length (n.passed i)) (n.entries i)) (map put (n.passed i) ++ (map put (n.met i) ++ last_item operation_codes n i o (n.instead i) ∷ []))
      (good_entries (length (n.passed i)) (n.entries i) (puts.entries i))
      (both_lists GoodItem (map put (n.passed i)) (map put (n.met i) ++ last_item operation_codes n i o (n.instead i) ∷ [])
      (each_mapped Good GoodItem put (λ y k. k) (n.passed i) (puts.passed i))
      (both_lists GoodItem (map put (n.met i)) (last_item operation_codes n i o (n.instead i) ∷ []) (each_mapped Good GoodItem put (λ y k. k) (n.met i) (puts.met i))
      (good_last i o (n.instead i) h (puts.instead i), tt)))

  good_from : (i : ℕ) (os : List Operation) → AllByRecursion (UsesBelow limit) os → AllByRecursion GoodItem (items_from operation_codes n i os)
  good_from i [] h = tt
  good_from i (o ∷ os) h = both_lists GoodItem (index_items operation_codes n i o) (items_from operation_codes n (suc i) os) (good_index i o h.0) (good_from (suc i) os h.1)

  good_lead : (entries : ℕ) → AllByRecursion GoodItem (lead_items {X = Y} operation_codes entries)
  good_lead zero = tt
  good_lead (suc entries) = (tt, tt)

  fits_item : (ok : Frame → Bool) (x : Item Operation Y) → GoodItem x → FitsItem limit ok (mapped_item (λ (o : Operation). o) fragment_of x)
  fits_item ok (Keeps over o) h = h
  fits_item ok (Puts over y) h = (h.means ok, h.within)

  pub items_fit : (ok : Frame → Bool) (os : List Operation) → AllByRecursion (UsesBelow limit) os → (place : ℕ) (item : Item Operation Fragment)
      → slice_get (fragment_items fragment_of n os) place ≡ Some item → FitsItem limit ok item
  items_fit ok os h place item there =
      at_each (FitsItem limit ok) (fragment_items fragment_of n os)
      (each_mapped GoodItem (FitsItem limit ok) (mapped_item (λ (o : Operation). o) fragment_of) (fits_item ok) (marked_items operation_codes n os)
      (both_lists GoodItem (lead_items operation_codes (length (n.entries 0))) (items_from operation_codes n 0 os) (good_lead (length (n.entries 0))) (good_from 0 os h)))
      place item there

-- ---- marks of lists

module _ {Y : Type 0} (P : Y → Type 0) where
  by_test : {A : Type 0} (piece : A → Y) (b : Bool) (x : A) (xs : List A) → P (piece x) → AllByRecursion P (map piece xs) → AllByRecursion P (map piece (cond b (x ∷ xs) xs))
  by_test piece true x xs h k = (h, k)
  by_test piece false x xs h k = k

  by_choice : (b : Bool) (x : PutAt Y) (o : Option (PutAt Y)) → P x.piece → IfSome (option_map (λ (put : PutAt Y). put.piece) o) P → IfSome (option_map (λ (put : PutAt Y). put.piece) (cond b (Some x) o)) P
  by_choice true x o h k = h
  by_choice false x o h k = k

  by_filter : {A : Type 0} (piece : A → Y) (p : A → Bool) (xs : List A) → AllByRecursion (λ (x : A). P (piece x)) xs → AllByRecursion P (map piece (filter p xs))
  by_filter piece p [] h = tt
  by_filter piece p (x ∷ xs) h = by_test piece (p x) x (filter p xs) h.0 (by_filter piece p xs h.1)

  by_find : (p : PutAt Y → Bool) (xs : List (PutAt Y)) → AllByRecursion (λ (put : PutAt Y). P put.piece) xs → IfSome (option_map (λ (put : PutAt Y). put.piece) (find p xs)) P
  by_find p [] h = tt
  by_find p (x ∷ xs) h = by_choice (p x) x (find p xs) h.0 (by_find p xs h.1)

  pub lists_put : (target_of : Handler → ℕ) (goes_on : Y → Bool) (places : List (PutAt Y)) (entries : List (PutBefore Y Handler)) → AllByRecursion (λ (put : PutAt Y). P put.piece) places
      → AllByRecursion (λ (put : PutBefore Y Handler). P put.piece) entries → EachPut P (marks_of target_of goes_on places entries)
  lists_put target_of goes_on places entries h k = record {
    entries = λ i. by_filter (λ (put : PutBefore Y Handler). put.piece) (leads_to i) entries k;
    passed = λ i. by_filter (λ (put : PutAt Y). put.piece) (is_passed i) places h;
    met = λ i. by_filter (λ (put : PutAt Y). put.piece) (is_met i) places h;
    instead = λ i. by_find (is_instead i) places h;
  }
