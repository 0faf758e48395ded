-- Where each piece of a list keeps to the shapes of its index, the marks of the lists do.
use Rattle.std.proofs.Common.{◌≡◌, ℕ, zero, suc, ◌<◌, List, [], ◌∷◌, length, Option, Some, None, Bool, true, false, refl, ap, subst, arith}
use Rattle.std.specs.Prelude.{◌&&◌, IsTrue, IfSome, cond, not, nat_eq, map, filter, option_map, slice_get}
use Rattle.std.specs.List.{AllByRecursion, find, position}
use Rattle.std.proofs.lemmas.Bool.{eqb-true}
use Rattle.std.proofs.lemmas.List.Quantifiers.{position-Some}
use Rattle.je_machine.specs.Operation.{Operation, Handler}
use Rattle.je_machine.specs.Slots.{UsesBelow}
use Rattle.je_shape.specs.Least.{Method, Assignment}
use Rattle.je_splice.specs.Reference.{Means}
use Rattle.je_splice.specs.Laid.{Fragment}
use Rattle.je_splice.specs.Marks.{Marks}
use Rattle.je_splice.specs.Put.{PutAt, PutBefore, is_passed, is_met, is_instead, leads_to, marks_of}
use Rattle.je_stay.specs.Marked.{KeepsAt, if_leads, StaysAt, MeetsPiece, PiecesKeep, FitsPiece, FitsMarked}
use Rattle.je_stay.specs.Listed.{PutKeeps, BeforeKeeps, ListsKeep, ListsFit}

-- ---- what is found in a list

-- one of the list, which passes the test
record Found {A B : Type 0} (P : A → Type 0) (p : A → Bool) (f : A → B) (y : B) : Type 0 where
  item : A
  passes : p item ≡ true
  is : f item ≡ y
  holds : P item

some_same : {A : Type 0} (a b : A) → Some a ≡ Some b → a ≡ b
some_same a b e = cc

filtered_by : {A B : Type 0} (P : A → Type 0) (p : A → Bool) (f : A → B) (x : A) (xs : List A) (k : ℕ) (y : B) (b : Bool) → p x ≡ b → P x
    → ((k : ℕ) → slice_get (map f xs) k ≡ Some y → Found P p f y) → slice_get (map f (cond b (x ∷ xs) xs)) k ≡ Some y → Found P p f y
filtered_by P p f x xs zero y true e h rest is = record { item = x; passes = e; is = some_same (f x) y is; holds = h }
filtered_by P p f x xs (suc k) y true e h rest is = rest k is
filtered_by P p f x xs k y false e h rest is = rest k is

filtered_has : {A B : Type 0} (P : A → Type 0) (p : A → Bool) (f : A → B) (xs : List A) (y : B) → AllByRecursion P xs → (k : ℕ) → slice_get (map f (filter p xs)) k ≡ Some y
    → Found P p f y
filtered_has P p f [] y all k is = absurd cc
filtered_has P p f (x ∷ xs) y all k is = filtered_by P p f x (filter p xs) k y (p x) refl all.0 (λ n e. filtered_has P p f xs y all.1 n e) is

found_by : {A B : Type 0} (P : A → Type 0) (p : A → Bool) (f : A → B) (x : A) (rest : Option A) (y : B) (b : Bool) → p x ≡ b → P x → (option_map f rest ≡ Some y → Found P p f y)
    → option_map f (cond b (Some x) rest) ≡ Some y → Found P p f y
found_by P p f x rest y true e h on is = record { item = x; passes = e; is = some_same (f x) y is; holds = h }
found_by P p f x rest y false e h on is = on is

found_has : {A B : Type 0} (P : A → Type 0) (p : A → Bool) (f : A → B) (xs : List A) (y : B) → AllByRecursion P xs → option_map f (find p xs) ≡ Some y → Found P p f y
found_has P p f [] y all is = absurd cc
found_has P p f (x ∷ xs) y all is = found_by P p f x (find p xs) y (p x) refl all.0 (λ e. found_has P p f xs y all.1 e) is

-- ---- which of them pass

first_true : (a b : Bool) → a && b ≡ true → a ≡ true
first_true true b e = refl
first_true false b e = absurd cc

second_true : (a b : Bool) → a && b ≡ true → b ≡ true
second_true true b e = e
second_true false b e = absurd cc

not_true : (b : Bool) → not b ≡ true → b ≡ false
not_true true e = absurd cc
not_true false e = refl

not_both : (a b : Bool) → not b ≡ true → not (a && b) ≡ true
not_both true true e = absurd cc
not_both true false e = refl
not_both false b e = refl

stays_first : (a b : Bool) → not a ≡ true → not (a && b) ≡ true
stays_first true b e = absurd cc
stays_first false b e = refl

module _ (i : ℕ) (put : PutAt Fragment) where
  passed_at : is_passed i put ≡ true → put.at ≡ i
  passed_at e = eqb-true put.at i (first_true (nat_eq put.at i) (not put.jumps) e)

  passed_before : is_passed i put ≡ true → IsTrue (not (put.removed && put.jumps))
  passed_before e = not_both put.removed put.jumps (second_true (nat_eq put.at i) (not put.jumps) e)

  met_at : is_met i put ≡ true → put.at ≡ i
  met_at e = eqb-true put.at i (first_true (nat_eq put.at i) (put.jumps && not put.removed) e)

  met_before : is_met i put ≡ true → IsTrue (not (put.removed && put.jumps))
  met_before e =
      stays_first put.removed put.jumps (second_true put.jumps (not put.removed) (second_true (nat_eq put.at i) (put.jumps && not put.removed) e))

  instead_at : is_instead i put ≡ true → put.at ≡ i
  instead_at e = eqb-true put.at i (first_true (nat_eq put.at i) put.removed e)

  instead_removed : is_instead i put ≡ true → IsTrue put.removed
  instead_removed e = second_true (nat_eq put.at i) put.removed e

before_at : (i : ℕ) (put : PutBefore Fragment Handler) → leads_to i put ≡ true → put.target ≡ i
before_at i put e = eqb-true put.target i e

-- ---- entries of the exception table meet pieces that are there

length_same : {A B : Type 0} (f : A → B) (xs : List A) → length (map f xs) ≡ length xs
length_same f [] = refl
length_same f (x ∷ xs) = ap suc (length_same f xs)

meets_found : (xs : List (PutBefore Fragment Handler)) (p : PutBefore Fragment Handler → Bool) (d : PutBefore Fragment Handler) (found : Option ℕ) → position p xs ≡ found
    → IfSome found (λ k. k < length (map (λ (put : PutBefore Fragment Handler). put.piece) xs))
meets_found xs p d None e = tt
meets_found xs p d (Some k) e =
    let size = length_same (λ (put : PutBefore Fragment Handler). put.piece) xs in
    let there = position-Some p xs k d e in
    omega (arith, size, there.0)

meets_in : (xs : List (PutBefore Fragment Handler)) (p : PutBefore Fragment Handler → Bool)
    → IfSome (position p xs) (λ k. k < length (map (λ (put : PutBefore Fragment Handler). put.piece) xs))
meets_in [] p = tt
meets_in (d ∷ xs) p = meets_found (d ∷ xs) p d (position p (d ∷ xs)) refl

module _ (completes : Fragment → Bool) (places : List (PutAt Fragment)) (entries : List (PutBefore Fragment Handler)) where
  abbrev marks : Marks Fragment Handler
  marks = marks_of (λ h. h.target) completes places entries

  pub all_meet : (hs : List Handler) → AllByRecursion (MeetsPiece marks) hs
  all_meet [] = tt
  all_meet (h ∷ hs) = (meets_in (filter (leads_to h.target) entries) (λ put. put.meets h), all_meet hs)

  -- ---- the marks keep to the shapes

  pub lists_keep : (m : Method) (x : Assignment) → ListsKeep m x completes places entries → PiecesKeep m x marks
  lists_keep m x keep = record {
    entries = λ at k piece is.
        let f = filtered_has (BeforeKeeps m x completes) (leads_to at) (λ put. put.piece) entries piece keep.entries k is in
        subst (λ (i : ℕ). KeepsAt m x i (if_leads (completes piece) (x i)) (Means piece.meaning)) (before_at at f.item f.passes)
        (subst (λ (p : Fragment). KeepsAt m x f.item.target (if_leads (completes p) (x f.item.target)) (Means p.meaning)) f.is f.holds);
    passed = λ at k piece is.
        let f = filtered_has (PutKeeps m x completes) (is_passed at) (λ put. put.piece) places piece keep.places k is in
        subst (λ (i : ℕ). KeepsAt m x i (x i) (Means piece.meaning)) (passed_at at f.item f.passes)
        (subst (λ (p : Fragment). KeepsAt m x f.item.at (x f.item.at) (Means p.meaning)) f.is (f.holds.before (passed_before at f.item f.passes)));
    met = λ at k piece is.
        let f = filtered_has (PutKeeps m x completes) (is_met at) (λ put. put.piece) places piece keep.places k is in
        subst (λ (i : ℕ). KeepsAt m x i (x i) (Means piece.meaning)) (met_at at f.item f.passes)
        (subst (λ (p : Fragment). KeepsAt m x f.item.at (x f.item.at) (Means p.meaning)) f.is (f.holds.before (met_before at f.item f.passes)));
    instead = λ at piece is.
        let f = found_has (PutKeeps m x completes) (is_instead at) (λ put. put.piece) places piece keep.places is in
        subst (λ (i : ℕ). KeepsAt m x i (if_leads (completes piece) (x (suc i))) (Means piece.meaning)) (instead_at at f.item f.passes)
        (subst (λ (p : Fragment). KeepsAt m x f.item.at (if_leads (completes p) (x (suc f.item.at))) (Means p.meaning)) f.is
        (f.holds.instead (instead_removed at f.item f.passes)));
    meets = all_meet m.program.handlers;
  }

  -- ---- and their blocks do what is meant

  pub lists_fit : (limit : ℕ) (m : Method) (x : Assignment) → ListsFit limit x places entries
      → ((at : ℕ) (operation : Operation) → StaysAt m marks at operation → UsesBelow limit operation) → FitsMarked limit m x marks
  lists_fit limit m x fit uses = record {
    entries = λ at k piece is.
        let f = filtered_has (λ (put : PutBefore Fragment Handler). FitsPiece limit (x put.target) put.piece) (leads_to at) (λ put. put.piece) entries piece fit.entries k is in
        subst (λ (i : ℕ). FitsPiece limit (x i) piece) (before_at at f.item f.passes) (subst (λ (p : Fragment). FitsPiece limit (x f.item.target) p) f.is f.holds);
    passed = λ at k piece is.
        let f = filtered_has (λ (put : PutAt Fragment). FitsPiece limit (x put.at) put.piece) (is_passed at) (λ put. put.piece) places piece fit.places k is in
        subst (λ (i : ℕ). FitsPiece limit (x i) piece) (passed_at at f.item f.passes) (subst (λ (p : Fragment). FitsPiece limit (x f.item.at) p) f.is f.holds);
    met = λ at k piece is.
        let f = filtered_has (λ (put : PutAt Fragment). FitsPiece limit (x put.at) put.piece) (is_met at) (λ put. put.piece) places piece fit.places k is in
        subst (λ (i : ℕ). FitsPiece limit (x i) piece) (met_at at f.item f.passes) (subst (λ (p : Fragment). FitsPiece limit (x f.item.at) p) f.is f.holds);
    instead = λ at piece is.
        let f = found_has (λ (put : PutAt Fragment). FitsPiece limit (x put.at) put.piece) (is_instead at) (λ put. put.piece) places piece fit.places is in
        subst (λ (i : ℕ). FitsPiece limit (x i) piece) (instead_at at f.item f.passes) (subst (λ (p : Fragment). FitsPiece limit (x f.item.at) p) f.is f.holds);
    stays = uses;
  }
