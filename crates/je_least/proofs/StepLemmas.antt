-- The steps of the search over the program's own lists.
use Rattle.std.proofs.Common.{true, false, ◌+◌, ◌-◌, ◌≡◌, ℕ, zero, suc, ◌<◌, ◌≤◌, List, [], ◌∷◌, ◌++◌, length, get_or, map, set, take, Option, Some, None, refl, sym, ap, subst, arith, ◌∙◌}
use Rattle.std.specs.Prelude.{Bool, IsTrue, slice_get, ◌↔◌, option_map, MatchOption, replicate}
use Rattle.std.proofs.lemmas.List.{length-map, get_or_default, append-nil}
use Rattle.std.proofs.lemmas.Option.{MatchOption-at_none, slice_get_past, slice_get_read}
use Rattle.std.proofs.lemmas.Bool.{both_ways}
use Rattle.je_machine.specs.Operation.{Operation, Handler}
use Rattle.je_machine.specs.Machine.{covers}
use Rattle.je_shape.specs.declared.slot.Slot as slots
use Rattle.je_shape.specs.declared.slot.Shape as shapes
use Rattle.je_least.specs.declared.known.Known as program
use Rattle.je_least.specs.declared.known.Known.TheVariants as knowns
use Rattle.je_shape.specs.Shape.{Shape, AreAlike, Known, Nothing, Has}
use Rattle.je_shape.specs.Flow.{flow}
use Rattle.je_shape.specs.Least.{Method, caught, frame_at, Arrives, Reaches, Sends, Serves, Passes, IsLeast, IsFault, IsFaultOf, IsFirstFault}
use Rattle.je_least.specs.Answer.{IsShapes}
use Rattle.je_least.specs.Arriving.{IsArrival, IsArrivalOrNone}
use Rattle.je_shape.specs.Views.{shape_seen}
use Rattle.je_least.specs.Knowns.{known_seen, parts_seen, shape_in, thrown_seen}
use Rattle.je_least.specs.Searching.{assigned, PassesAt, Gains, IsSolving}
use Rattle.je_least.proofs.SearchLemmas.{outside_code, taken_already, put_there, solving_begins, gains_none, gains_served, gains_at, gains_nowhere, gains_nothing}
use Rattle.je_least.proofs.FaultLemmas.{fault_found, no_fault_here, no_fault, are_shapes}

abbrev all : List program.Known → List Known
all items = map known_seen items

get_seen : (items : List program.Known) (i : ℕ) → get_or (all items) i Nothing ≡ known_seen (get_or items i knowns.Nothing)
get_seen [] i = refl
get_seen (k ∷ items) zero = refl
get_seen (k ∷ items) (suc i) = get_seen items i

pub read : (slice items : List program.Known) (i : ℕ) (there : program.Known) → slice ≡ items → there ≡ get_or slice i there → i < length slice → known_seen there ≡ assigned (all items) i
read slice items i there q e inside =
    subst (λ (l : List program.Known). known_seen there ≡ assigned (all l) i) q
    (ap known_seen (e ∙ get_or_default slice i there knowns.Nothing inside) ∙ sym (get_seen slice i))

count_of : (slice items : List program.Known) → slice ≡ items → length slice ≡ length (all items)
count_of slice items q = ap (λ (l : List program.Known). length l) q ∙ sym (length-map items known_seen)

count_to : (items : List program.Known) (n : ℕ) → length items ≡ n → length (all items) ≡ n
count_to items n e = length-map items known_seen ∙ e

-- ---- what comes to an index

pub passed_outside : (m : Method) (slice items : List program.Known) (todo : List ℕ) (to : ℕ) (known : Known) → slice ≡ items → length items ≡ length m.program.operations → length slice ≤ to
    → Gains (λ y. Reaches m y to known) (all items) todo (all items) todo
passed_outside m slice items todo to known q n past =
    outside_code m (all items) todo to known (count_to items (length m.program.operations) n) (omega (arith, count_of slice items q, past))

pub passed_taken : (m : Method) (slice items : List program.Known) (todo : List ℕ) (to : ℕ) (known : Known) (there : program.Known) (frame : Option Shape) (found : Option program.Known) → slice ≡ items
    → there ≡ get_or slice to there → to < length slice → frame ≡ frame_at m.frames to → found ≡ None → IsArrivalOrNone frame known (known_seen there) (option_map known_seen found)
    → Gains (λ y. Reaches m y to known) (all items) todo (all items) todo
passed_taken m slice items todo to known there frame found q e inside f none h =
    let a : Arrives frame known (known_seen there) =
    subst (λ (o : Option program.Known). IsArrivalOrNone frame known (known_seen there) (option_map known_seen o)) none h in
    taken_already m (all items) todo to known (known_seen there) (read slice items to there q e inside)
    (subst (λ (o : Option Shape). Arrives o known (known_seen there)) f a)

pub passed_put : (m : Method) (slice items : List program.Known) (todo : List ℕ) (to : ℕ) (known : Known) (there more : program.Known) (frame : Option Shape) (found : Option program.Known) (new : List Known) (next : List ℕ) → slice ≡ items
    → length items ≡ length m.program.operations → there ≡ get_or slice to there → to < length slice → frame ≡ frame_at m.frames to → found ≡ Some more → IsArrivalOrNone frame known (known_seen there) (option_map known_seen found)
    → new ≡ set (all items) to (known_seen more) → next ≡ todo ++ to ∷ []
    → Gains (λ y. Reaches m y to known) (all items) todo new next
passed_put m slice items todo to known there more frame found new next q n e inside f some h g k =
    let a : IsArrival frame known (known_seen there) (known_seen more) =
    subst (λ (o : Option program.Known). IsArrivalOrNone frame known (known_seen there) (option_map known_seen o)) some h in
    put_there m (all items) todo new next to known (known_seen there) (known_seen more) (count_to items (length m.program.operations) n) (omega (arith, count_of slice items q, inside))
    (read slice items to there q e inside) g k
    (subst (λ (o : Option Shape). IsArrival o known (known_seen there) (known_seen more)) f a)

pub begun : (m : Method) (entry : shapes.Shape) (stack locals : List slots.Slot) (operations : List Operation) (none table : List Known) (todo next : List ℕ) → shape_seen entry ≡ m.entry
    → stack ≡ entry.stack → locals ≡ entry.locals → operations ≡ m.program.operations → none ≡ replicate (length operations) Nothing → todo ≡ []
    → Gains (λ y. Reaches m y 0 (Has (parts_seen stack locals))) none todo table next → IsSolving m table next
begun m entry stack locals operations none table todo next same e f q n t g =
    let shape : parts_seen stack locals ≡ m.entry =
    ap (λ (l : List slots.Slot). parts_seen l locals) e ∙ ap (λ (l : List slots.Slot). parts_seen entry.stack l) f ∙ same in
    solving_begins m none todo table next (n ∙ ap (λ (l : List Operation). replicate (length l) Nothing) q) t
    (subst (λ (s : Shape). Gains (λ y. Reaches m y 0 (Has s)) none todo table next) shape g)

-- ---- handlers

pub uncovered : (m : Method) (at : ℕ) (thrown : Handler → Known) (h : Handler) (test : Bool) → test ≡ covers at h → test ≡ false
    → (a : List Known) (s : List ℕ) → Gains (λ y. IsTrue (covers at h) → Reaches m y h.target (thrown h)) a s a s
uncovered m at thrown h test e fails a s =
    gains_none (λ y. IsTrue (covers at h) → Reaches m y h.target (thrown h)) a s
    (λ r. absurd (both_ways test fails (e ∙ r)))

-- ---- from an index

pub shape_passed : (m : Method) (at : ℕ) (o : Operation) (s : shapes.Shape) (t : shapes.Shape) (stack locals before : List slots.Slot) (served : Bool)
    → (IsTrue served ↔ Serves m at o (shape_seen s)) → served ≡ true → AreAlike (shape_seen t) (flow m.class at o (shape_seen s))
    → stack ≡ t.stack → locals ≡ t.locals → before ≡ s.locals
    → (a : List Known) (r : List ℕ) (b : List Known) (u : List ℕ)
    → Gains (λ y. Sends m y at o (Has (parts_seen stack locals)) (thrown_seen (Some before))) a r b u
    → Gains (λ y. Passes m y at o (Has (shape_seen s))) a r b u
shape_passed m at o s t stack locals before served test holds alike e f k a r b u g =
    let shape : parts_seen stack locals ≡ shape_seen t =
    ap (λ (l : List slots.Slot). parts_seen l locals) e ∙ ap (λ (l : List slots.Slot). parts_seen t.stack l) f in
    gains_served m at o (shape_seen s) (shape_seen t) (thrown_seen (Some before)) (test.0 holds) alike
    (λ h. ap (λ (l : List slots.Slot). Has (caught h (parts_seen [] l))) k)
    a r b u
    (subst (λ (x : Shape). Gains (λ y. Sends m y at o (Has x) (thrown_seen (Some before))) a r b u) shape g)

pub turned : (m : Method) (slice items : List program.Known) (at : ℕ) (o : Operation) (there copy : program.Known) (known : Known) → slice ≡ items → there ≡ get_or slice at there → at < length slice
    → known_seen copy ≡ known_seen there → known_seen copy ≡ known → slice_get m.program.operations at ≡ Some o
    → (r : List ℕ) (b : List Known) (u : List ℕ)
    → Gains (λ y. Passes m y at o known) (all items) r b u
    → Gains (λ y. PassesAt m y at (assigned (all items) at)) (all items) r b u
turned m slice items at o there copy known q e inside same k s r b u g =
    let seen : known ≡ assigned (all items) at = sym k ∙ (same ∙ read slice items at there q e inside) in
    subst (λ (x : Known). Gains (λ y. PassesAt m y at x) (all items) r b u) seen
    (gains_at m at o known s (all items) r b u g)

pub turned_nothing : (m : Method) (slice items : List program.Known) (at : ℕ) (there copy : program.Known) → slice ≡ items → there ≡ get_or slice at there → at < length slice
    → known_seen copy ≡ known_seen there → copy ≡ knowns.Nothing
    → (r : List ℕ) → Gains (λ y. PassesAt m y at (assigned (all items) at)) (all items) r (all items) r
turned_nothing m slice items at there copy q e inside same k r =
    let seen : Nothing ≡ assigned (all items) at = sym (ap known_seen k) ∙ (same ∙ read slice items at there q e inside) in
    subst (λ (x : Known). Gains (λ y. PassesAt m y at x) (all items) r (all items) r) seen
    (gains_nothing m at (all items) r)

pub turned_nowhere : (m : Method) (operations : List Operation) (at : ℕ) (known : Known) → operations ≡ m.program.operations → length operations ≤ at
    → (a : List Known) (r : List ℕ) → Gains (λ y. PassesAt m y at known) a r a r
turned_nowhere m operations at known q past a r =
    gains_nowhere m at known (ap (λ (l : List Operation). slice_get l at) (sym q) ∙ slice_get_past operations at past) a r

pub stands : (xs ys : List Operation) (i : ℕ) (o : Operation) → xs ≡ ys → o ≡ get_or xs i o → i < length xs → slice_get ys i ≡ Some o
stands xs ys i o q e inside = subst (λ (l : List Operation). slice_get l i ≡ Some o) q (slice_get_read xs (length xs) i o refl inside e)

pub nil_by : (xs ys : List ℕ) (n : ℕ) → xs ≡ ys ++ [] → ys ≡ take (n - 1) xs → n ≡ 0 → xs ≡ []
nil_by xs ys n e f z =
    e ∙ (append-nil ys ∙ (f ∙ ap (λ (k : ℕ). take (k - 1) xs) z))

-- ---- the answer

pub found_at : (m : Method) (operations : List Operation) (slice : List program.Known) (index at : ℕ) (o : Operation) (there : program.Known) (faulty : Bool) → operations ≡ m.program.operations → at ≡ index → index < length operations
    → o ≡ get_or operations index o → length slice ≡ length m.program.operations → there ≡ get_or slice index there → (IsTrue faulty ↔ IsFaultOf m at o (known_seen there)) → faulty ≡ true
    → ((before : ℕ) → before < index → IsFault m (assigned (all slice)) before → ⊥) → IsFirstFault m (assigned (all slice)) at
found_at m operations slice index at o there faulty q i inside e n r test holds none =
    let item : o ≡ get_or m.program.operations index o = e ∙ ap (λ (l : List Operation). get_or l index o) q in
    let within : index < length m.program.operations = subst (λ (l : List Operation). index < length l) q inside in
    let seen : known_seen there ≡ assigned (all slice) index = read slice slice index there refl r (omega (arith, n, within)) in
    let here : IsTrue true ↔ IsFaultOf m index o (known_seen there) =
    subst (λ (k : ℕ). IsTrue true ↔ IsFaultOf m k o (known_seen there)) i
    (subst (λ (b : Bool). IsTrue b ↔ IsFaultOf m at o (known_seen there)) holds test) in
    subst (λ (k : ℕ). IsFirstFault m (assigned (all slice)) k) (sym i)
    (fault_found m (all slice) index o o (known_seen there) within item seen here none)

pub none_at : (m : Method) (operations : List Operation) (slice : List program.Known) (index at : ℕ) (o : Operation) (there : program.Known) (faulty : Bool) → operations ≡ m.program.operations → at ≡ index → index < length operations
    → o ≡ get_or operations index o → length slice ≡ length m.program.operations → there ≡ get_or slice index there → (IsTrue faulty ↔ IsFaultOf m at o (known_seen there)) → faulty ≡ false
    → ((before : ℕ) → before < index → IsFault m (assigned (all slice)) before → ⊥)
    → (before : ℕ) → before < index + 1 → IsFault m (assigned (all slice)) before → ⊥
none_at m operations slice index at o there faulty q i inside e n r test holds none =
    let item : o ≡ get_or m.program.operations index o = e ∙ ap (λ (l : List Operation). get_or l index o) q in
    let within : index < length m.program.operations = subst (λ (l : List Operation). index < length l) q inside in
    let seen : known_seen there ≡ assigned (all slice) index = read slice slice index there refl r (omega (arith, n, within)) in
    let here : IsTrue false ↔ IsFaultOf m index o (known_seen there) =
    subst (λ (k : ℕ). IsTrue false ↔ IsFaultOf m k o (known_seen there)) i
    (subst (λ (b : Bool). IsTrue b ↔ IsFaultOf m at o (known_seen there)) holds test) in
    no_fault_here m (all slice) index o o (known_seen there) within item seen here none

pub none_left : (m : Method) (operations : List Operation) (slice : List program.Known) (index : ℕ) → operations ≡ m.program.operations → length operations ≤ index
    → ((before : ℕ) → before < index → IsFault m (assigned (all slice)) before → ⊥) → (at : ℕ) → IsFault m (assigned (all slice)) at → ⊥
none_left m operations slice index q past none =
    no_fault m (all slice) index (subst (λ (l : List Operation). length l ≤ index) q past) none

pub answered : (m : Method) (slice items : List program.Known) (found : Option ℕ) (list : List (Option Shape)) → slice ≡ items → length items ≡ length m.program.operations → IsLeast m (assigned (all items)) → found ≡ None
    → MatchOption found ((at : ℕ) → IsFault m (assigned (all slice)) at → ⊥) (λ at. IsFirstFault m (assigned (all slice)) at)
    → list ≡ map shape_in (all items) → IsShapes m list
answered m slice items found list q n least none h e =
    let whole : (at : ℕ) → IsFault m (assigned (all slice)) at → ⊥ =
    MatchOption-at_none ((at : ℕ) → IsFault m (assigned (all slice)) at → ⊥) (λ at. IsFirstFault m (assigned (all slice)) at) none h in
    are_shapes m (all items) list (count_to items (length m.program.operations) n) least
    (subst (λ (l : List program.Known). (at : ℕ) → IsFault m (assigned (all l)) at → ⊥) q whole) e
