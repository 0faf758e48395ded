-- Where nothing is put but in the place of instructions, the reference goes by the method's own indexes.
use Rattle.std.proofs.Common.{◌≡◌, ℕ, zero, suc, ◌+◌, List, [], ◌∷◌, ◌++◌, length, map, Option, Some, None, Bool, true, false, not, cond, ◌&&◌, nat_eq, option_map, refl, ap, ◌∙◌, arith}
use Rattle.std.specs.Prelude.{ℤ, slice_get, filter}
use Rattle.std.specs.List.{AllByRecursion}
use Rattle.je_machine.specs.Value.{Kind}
use Rattle.je_machine.specs.Operation.{Operation, Do, Load, Store, Increment, Branch, Goto, Switch, Return, Handler, Program}
use Rattle.je_machine.specs.IndexMap.{may_fall}
use Rattle.je_machine.specs.Moved.{retargeted}
use Rattle.je_splice.specs.Layout.{operation_codes, moved_entry, Item, Keeps, Puts, over_of, next_by, next_place}
use Rattle.je_splice.specs.Laid.{Fragment, doing_of, reference_of}
use Rattle.je_splice.specs.Mapped.{mapped_item}
use Rattle.je_splice.specs.Marks.{Marks, OnlyInstead, first_of, arrive, over_if, entry_items, last_item, index_items, items_from, lead_items, marked_items, entry_target, marked_handlers, doing_at, replaced}
use Rattle.je_splice.specs.Put.{PutAt, is_passed, is_met, marks_of, StandsInstead}
use Rattle.je_splice.specs.Reference.{Doing, Performs, Reference}
use Rattle.je_splice.specs.Resolved.{fragment_items}
use Rattle.je_splice.proofs.LayoutLemmas.{get_mapped}
use Rattle.je_splice.proofs.MarksLemmas.{first_alone, arrive_alone}

same_maps : (f g : ℕ → ℕ) → ((n : ℕ) → f n ≡ g n) → f ≡ g
same_maps f g e = λ i. λ n. e n i

same_cases : (cases : List (ℤ × ℕ)) → map (λ (c : ℤ × ℕ). (c.0, c.1)) cases ≡ cases
same_cases [] = refl
same_cases (c ∷ cases) = ap (λ (l : List (ℤ × ℕ)). c ∷ l) (same_cases cases)

stays : (o : Operation) → retargeted (λ n. n) o ≡ o
stays (Do basic) = refl
stays (Load kind slot) = refl
stays (Store kind slot) = refl
stays (Increment slot by) = refl
stays (Branch condition target) = refl
stays (Goto target) = refl
stays (Switch cases fallback) = ap (λ (l : List (ℤ × ℕ)). Switch l fallback) (same_cases cases)
stays (Return kind) = refl

stays_by : (to : ℕ → ℕ) (o : Operation) → ((n : ℕ) → to n ≡ n) → retargeted to o ≡ o
stays_by to o same = ap (λ (f : ℕ → ℕ). retargeted f o) (same_maps to (λ n. n) same) ∙ stays o

abbrev handler_made : ℕ → ℕ → ℕ → Option (List ℕ) → Handler
handler_made start end target class = record { start = start; end = end; target = target; catch_class = class }

over_none : (b : Bool) (n : ℕ) → n ≡ 0 → over_if b n ≡ 0
over_none true n e = e
over_none false n e = refl

module _ {Y : Type 0} (fragment_of : Y → Fragment) (m : Marks Y Handler) (only : OnlyInstead m) where
  -- what stands at an index
  abbrev last : ℕ → Operation → Item Operation Y
  last i o = last_item operation_codes m i o (m.instead i)

  no_entries : (i : ℕ) → length (m.entries i) ≡ 0
  no_entries i = ap length (only.entries i)

  -- its item alone
  alone : (i : ℕ) (o : Operation) → index_items operation_codes m i o ≡ last i o ∷ []
  alone i o =
      ap (λ (xs : List Y). entry_items m (length (m.passed i)) xs ++ (map (λ (x : Y). Puts 0 x) (m.passed i) ++ (map (λ (x : Y). Puts 0 x) (m.met i) ++ last i o ∷ []))) (only.entries i)
      ∙ ap (λ (xs : List Y). map (λ (x : Y). Puts 0 x) xs ++ (map (λ (x : Y). Puts 0 x) (m.met i) ++ last i o ∷ [])) (only.passed i)
      ∙ ap (λ (xs : List Y). map (λ (x : Y). Puts 0 x) xs ++ last i o ∷ []) (only.met i)

  abbrev found : ℕ → Option Operation → Option (Item Operation Y)
  found i o = option_map (last i) o

  got_from : (i k : ℕ) (code : List Operation) → slice_get (items_from operation_codes m i code) k ≡ found (i + k) (slice_get code k)
  got_from i k [] = refl
  got_from i zero (o ∷ code) =
      let none : i ≡ i + 0 = omega arith in
      ap (λ (xs : List (Item Operation Y)). slice_get (xs ++ items_from operation_codes m (suc i) code) 0) (alone i o) ∙ ap (λ (n : ℕ). found n (Some o)) none
  got_from i (suc k) (o ∷ code) =
      let next : suc i + k ≡ i + suc k = omega arith in
      ap (λ (xs : List (Item Operation Y)). slice_get (xs ++ items_from operation_codes m (suc i) code) (suc k)) (alone i o)
      ∙ got_from (suc i) k code ∙ ap (λ (n : ℕ). found n (slice_get code k)) next

  got : (code : List Operation) (i : ℕ) → slice_get (marked_items operation_codes m code) i ≡ found i (slice_get code i)
  got code i =
      let none : 0 + i ≡ i = omega arith in
      ap (λ (n : ℕ). slice_get (lead_items {X = Y} operation_codes n ++ items_from operation_codes m 0 code) i) (no_entries 0)
      ∙ got_from 0 i code ∙ ap (λ (n : ℕ). found n (slice_get code i)) none

  abbrev as_fragment : Item Operation Y → Item Operation Fragment
  as_fragment = mapped_item (λ (o : Operation). o) fragment_of

  done_by : (i : ℕ) (o : Operation) (instead : Option Y) → Some (doing_of (as_fragment (last_item operation_codes m i o instead))) ≡ doing_at (option_map fragment_of instead) (Some o)
  done_by i o None = ap (λ (x : Operation). Some (Performs x)) (stays_by (arrive m) o (arrive_alone m only))
  done_by i o (Some y) = refl

  done_nowhere : (instead : Option Fragment) → None ≡ doing_at instead None
  done_nowhere instead = refl

  done_at : (i : ℕ) (o : Option Operation) → option_map doing_of (option_map as_fragment (found i o)) ≡ doing_at (option_map fragment_of (m.instead i)) o
  done_at i None = done_nowhere (option_map fragment_of (m.instead i))
  done_at i (Some o) = done_by i o (m.instead i)

  over_by : (i : ℕ) (o : Operation) (instead : Option Y) → over_of (last_item operation_codes m i o instead) ≡ 0
  over_by i o None = over_none (may_fall o) (length (m.entries (suc i))) (no_entries (suc i))
  over_by i o (Some y) = over_none (m.completes y) (length (m.entries (suc i))) (no_entries (suc i))

  over_mapped : (x : Item Operation Y) → over_of (as_fragment x) ≡ over_of x
  over_mapped (Keeps over o) = refl
  over_mapped (Puts over y) = refl

  next_at : (i : ℕ) (o : Option Operation) → next_by i (option_map as_fragment (found i o)) ≡ suc i
  next_at i None = refl
  next_at i (Some o) = let none = over_mapped (last i o) ∙ over_by i o (m.instead i) in omega (arith, none)

  target_is : (entry : Option ℕ) → entry ≡ None → (i : ℕ) → entry_target m entry i ≡ i
  target_is None e i = arrive_alone m only i
  target_is (Some entry) e i = absurd cc

  handler_is : (h : Handler) → m.entry_of h ≡ None → moved_entry (first_of m) (first_of m) (entry_target m (m.entry_of h)) h ≡ h
  handler_is h e =
      ap (λ (n : ℕ). handler_made n (first_of m h.end) (entry_target m (m.entry_of h) h.target) h.catch_class) (first_alone m only h.start)
      ∙ ap (λ (n : ℕ). handler_made h.start n (entry_target m (m.entry_of h) h.target) h.catch_class) (first_alone m only h.end)
      ∙ ap (λ (n : ℕ). handler_made h.start h.end n h.catch_class) (target_is (m.entry_of h) e h.target)

  module _ (none : (h : Handler) → m.entry_of h ≡ None) where
    pub handlers_are : (hs : List Handler) → marked_handlers operation_codes m hs ≡ hs
    handlers_are [] = refl
    handlers_are (h ∷ hs) =
        ap (λ (g : Handler). g ∷ marked_handlers operation_codes m hs) (handler_is h (none h)) ∙ ap (λ (l : List Handler). h ∷ l) (handlers_are hs)

    abbrev made : List Kind → (ℕ → Option Doing) → List Handler → (ℕ → ℕ) → Reference
    made parameters doing handlers next = record { parameters = parameters; doing = doing; handlers = handlers; next = next; home = λ i. i }

    pub marked_is : (p : Program) → reference_of p.parameters (fragment_items fragment_of m p.operations) (marked_handlers operation_codes m p.handlers) ≡ replaced p (λ i. option_map fragment_of (m.instead i))
    marked_is p =
        let items : List (Item Operation Fragment) = fragment_items fragment_of m p.operations in
        let there : (i : ℕ) → slice_get items i ≡ option_map as_fragment (found i (slice_get p.operations i)) =
        λ i. get_mapped as_fragment (marked_items operation_codes m p.operations) i ∙ ap (option_map as_fragment) (got p.operations i) in
        let doing : (i : ℕ) → option_map doing_of (slice_get items i) ≡ doing_at (option_map fragment_of (m.instead i)) (slice_get p.operations i) =
        λ i. ap (option_map doing_of) (there i) ∙ done_at i (slice_get p.operations i) in
        let next : (i : ℕ) → next_place items i ≡ suc i = λ i. ap (next_by i) (there i) ∙ next_at i (slice_get p.operations i) in
        ap (λ (hs : List Handler). made p.parameters (λ i. option_map doing_of (slice_get items i)) hs (next_place items)) (handlers_are p.handlers)
        ∙ ap (λ (f : ℕ → ℕ). made p.parameters (λ i. option_map doing_of (slice_get items i)) p.handlers f) (same_maps (next_place items) (λ i. suc i) next)
        ∙ (λ i. made p.parameters (λ n. doing n i) p.handlers (λ n. suc n))

-- ---- lists of what stands in place of instructions

by_false : {A : Type 0} (b : Bool) (x : A) (xs : List A) → b ≡ false → cond b (x ∷ xs) xs ≡ xs
by_false true x xs e = absurd cc
by_false false x xs e = refl

none_pass : {A : Type 0} (P : A → Type 0) (p : A → Bool) → ((a : A) → P a → p a ≡ false) → (xs : List A) → AllByRecursion P xs → filter p xs ≡ []
none_pass P p none [] h = refl
none_pass P p none (x ∷ xs) h = by_false (p x) x (filter p xs) (none x h.0) ∙ none_pass P p none xs h.1

and_false : (b : Bool) → (b && false) ≡ false
and_false true = refl
and_false false = refl

not_passed : {X : Type 0} (i : ℕ) (put : PutAt X) → StandsInstead put → is_passed i put ≡ false
not_passed i put h = ap (λ (t : Bool). nat_eq put.at i && not t) h.jumps ∙ and_false (nat_eq put.at i)

not_met : {X : Type 0} (i : ℕ) (put : PutAt X) → StandsInstead put → is_met i put ≡ false
not_met i put h =
    ap (λ (t : Bool). nat_eq put.at i && (t && not put.removed)) h.jumps ∙ ap (λ (t : Bool). nat_eq put.at i && not t) h.removed ∙ and_false (nat_eq put.at i)

pub stand_instead : {X H : Type 0} (target_of : H → ℕ) (completes : X → Bool) (places : List (PutAt X)) → AllByRecursion StandsInstead places
    → OnlyInstead (marks_of {X = X} {H = H} target_of completes places [])
stand_instead {X = X} target_of completes places h = record {
  entries = λ i. refl;
  passed = λ i. ap (map (λ (put : PutAt X). put.piece)) (none_pass StandsInstead (is_passed i) (not_passed i) places h);
  met = λ i. ap (map (λ (put : PutAt X). put.piece)) (none_pass StandsInstead (is_met i) (not_met i) places h);
}
