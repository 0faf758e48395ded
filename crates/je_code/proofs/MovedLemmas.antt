-- Rows that are moved stand within the code that they are moved to.
use Rattle.std.proofs.Common.{length, ◌≡◌, ℕ, zero, suc, ◌≤◌, Bool, true, false, cond, ◌&&◌, ltb, ltb-true, List, [], ◌∷◌, map, get_or, refl, arith}
use Rattle.std.specs.List.{AllByRecursion, filter}
use Rattle.je_code.specs.declared.attr.CodeAttr.{CodeAttr}
use Rattle.je_code.specs.declared.rows.LineRow.{LineRow}
use Rattle.je_code.specs.declared.rows.VarRow.{VarRow}
use Rattle.je_code.specs.declared.rows.Tables.{Tables}
use Rattle.je_code.specs.CodeAttr.{HasRowsWithin}
use Rattle.je_code.specs.Moved.{line_under, var_under, moved, IsNewOf, IsLineInside, IsVarInside, AreInside, HaveCounts}

-- what passes a test and is an image
module _ {A : Type 0} (to : A → A) (test : A → Bool) (P : A → Type 0) (passes : (x : A) → test (to x) ≡ true → P (to x)) where
  kept : (b : Bool) (x : A) (xs : List A) → test (to x) ≡ b → AllByRecursion P xs → AllByRecursion P (cond b (to x ∷ xs) xs)
  kept true x xs e h = (passes x e, h)
  kept false x xs e h = h

  all_kept : (xs : List A) → AllByRecursion P (filter test (map to xs))
  all_kept [] = tt
  all_kept (x ∷ xs) = kept (test (to x)) x (filter test (map to xs)) refl (all_kept xs)

each_at : (limit : ℕ) (xs : List ℕ) → AllByRecursion (λ x. x ≤ limit) xs → (i : ℕ) → get_or xs i 0 ≤ limit
each_at limit [] h i = omega arith
each_at limit (x ∷ xs) h zero = h.0
each_at limit (x ∷ xs) h (suc i) = each_at limit xs h.1 i

both : (a b : Bool) → a && b ≡ true → (a ≡ true) × (b ≡ true)
both true true e = (refl, refl)
both true false e = absurd cc
both false b e = absurd cc

module _ (to : ℕ → ℕ) (count : ℕ) (within : (i : ℕ) → to i ≤ count) where
  line_inside : (row : LineRow) → ltb (to row.start) count ≡ true → IsLineInside count (line_under to row)
  line_inside row e = ltb-true (to row.start) count e

  var_inside : (row : VarRow) → ltb (to row.start) (to row.end) && ltb (to row.start) count ≡ true → IsVarInside count (var_under to row)
  var_inside row e = (ltb-true (to row.start) (to row.end) (both (ltb (to row.start) (to row.end)) (ltb (to row.start) count) e).0, within row.end)

  pub moved_inside : (code : CodeAttr) → AreInside count (moved to count code)
  moved_inside code = record {
    lines = all_kept (line_under to) (λ (row : LineRow). ltb row.start count) (IsLineInside count) line_inside code.lines;
    vars = all_kept (var_under to) (λ (row : VarRow). ltb row.start row.end && ltb row.start count) (IsVarInside count) var_inside code.vars;
    var_types = all_kept (var_under to) (λ (row : VarRow). ltb row.start row.end && ltb row.start count) (IsVarInside count) var_inside code.var_types;
  }

-- under a list of new indexes
pub moved_by_list : (old count : ℕ) (new_of : List ℕ) (code : CodeAttr) (t : Tables) → IsNewOf old count new_of → t ≡ moved (λ i. get_or new_of i 0) count code → AreInside count t
moved_by_list old count new_of code t is e =
    let inside = moved_inside (λ i. get_or new_of i 0) count (each_at count new_of is.within) code in
    rw e inside

-- ---- how many there are

kept_few : {A : Type 0} (b : Bool) (x : A) (xs : List A) (n : ℕ) → length xs ≤ n → length (cond b (x ∷ xs) xs) ≤ suc n
kept_few true x xs n h = omega (arith, h)
kept_few false x xs n h = omega (arith, h)

few_kept : {A : Type 0} (to : A → A) (test : A → Bool) (xs : List A) → length (filter test (map to xs)) ≤ length xs
few_kept to test [] = omega arith
few_kept to test (x ∷ xs) = kept_few (test (to x)) (to x) (filter test (map to xs)) (length xs) (few_kept to test xs)

-- what is moved is no more than there was
pub moved_few : (to : ℕ → ℕ) (count : ℕ) (code : CodeAttr) (t : Tables) → HasRowsWithin code → t ≡ moved to count code → HaveCounts t
moved_few to count code t within e =
    let lines = few_kept (line_under to) (λ (row : LineRow). ltb row.start count) code.lines in
    let vars = few_kept (var_under to) (λ (row : VarRow). ltb row.start row.end && ltb row.start count) code.vars in
    let types = few_kept (var_under to) (λ (row : VarRow). ltb row.start row.end && ltb row.start count) code.var_types in
    let counts : HaveCounts (moved to count code) = record {
      lines = omega (arith, lines, within.few_lines);
      vars = omega (arith, vars, within.few_vars);
      var_types = omega (arith, types, within.few_var_types);
    } in
    rw e counts
